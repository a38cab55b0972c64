-- By whether a line has the key, and the sheet's name.
use Rattle.std.specs.Prelude.{◌≡◌, ◌+◌, ◌-◌, ◌*◌}
use Rattle.std.proofs.Common.{◌∙◌}
use Rattle.lists.specs.Basics.{refl, ap, subst, ℕ, take, drop, arith}
use Rattle.model.specs.TwoSheets.{plain_bytes, bookkeeping_bytes}
use Rattle.model.specs.Told.{ranked_by, numbered}
use Rattle.two_engine.specs.Lookups.{Ranks, looked_missing, looked_plain, looked_bookkeeping, looked_none}
use Rattle.two_engine.proofs.lookup.lookup.Goals as goal

pub returns-in-Err : goal.returns-in-Err
returns-in-Err c =
    let a = c.args in
    looked_missing a.plain.now a.book.now a.key _ (subst (Ranks a.plain.now a.book.now a.key) (ap ranked_by c.in-Err.is) c.line_told.ensures) a.named (numbered _)

pub overflow_mul-at : goal.overflow_mul-at
overflow_mul-at c =
    let l = (subst (Ranks c.args.plain.now c.args.book.now c.args.key) (ap ranked_by c.in-Ok.is) c.line_told.ensures).fits refl in omega (arith, l.0)

pub overflow_add-end : goal.overflow_add-end
overflow_add-end c =
    let l = (subst (Ranks c.args.plain.now c.args.book.now c.args.key) (ap ranked_by c.in-Ok.is) c.line_told.ensures).fits refl in omega (arith, l.0)

pub slice_bounds-result-end : goal.slice_bounds-result-end
slice_bounds-result-end c =
    let l = (subst (Ranks c.args.plain.now c.args.book.now c.args.key) (ap ranked_by c.in-Ok.is) c.line_told.ensures).fits refl in omega (arith, l.0)

pub returns-then-named-eq0 : goal.returns-then-named-eq0
returns-then-named-eq0 c =
    let a = c.args in
    let i = c.in-Ok.rank.below in
    let w : i * plain_bytes + plain_bytes - i * plain_bytes ≡ plain_bytes = omega arith in
    ap (λ (n : ℕ). take n (drop (i * plain_bytes) a.plain.now)) w ∙ looked_plain a.plain.now a.book.now a.key _ (subst (Ranks a.plain.now a.book.now a.key) (ap ranked_by c.in-Ok.is) c.line_told.ensures) a.named refl c.if-named-eq0.true

pub overflow_mul-at-then-named-eq1 : goal.overflow_mul-at-then-named-eq1
overflow_mul-at-then-named-eq1 c =
    let l = (subst (Ranks c.args.plain.now c.args.book.now c.args.key) (ap ranked_by c.in-Ok.is) c.line_told.ensures).fits refl in omega (arith, l.1)

pub overflow_add-end-then-named-eq1 : goal.overflow_add-end-then-named-eq1
overflow_add-end-then-named-eq1 c =
    let l = (subst (Ranks c.args.plain.now c.args.book.now c.args.key) (ap ranked_by c.in-Ok.is) c.line_told.ensures).fits refl in omega (arith, l.1)

pub slice_bounds-result-end-then-named-eq1 : goal.slice_bounds-result-end-then-named-eq1
slice_bounds-result-end-then-named-eq1 c =
    let l = (subst (Ranks c.args.plain.now c.args.book.now c.args.key) (ap ranked_by c.in-Ok.is) c.line_told.ensures).fits refl in omega (arith, l.1)

pub returns-then-named-eq1 : goal.returns-then-named-eq1
returns-then-named-eq1 c =
    let a = c.args in
    let i = c.in-Ok.rank.below in
    let w : i * bookkeeping_bytes + bookkeeping_bytes - i * bookkeeping_bytes ≡ bookkeeping_bytes = omega arith in
    ap (λ (n : ℕ). take n (drop (i * bookkeeping_bytes) a.book.now)) w ∙ looked_bookkeeping a.plain.now a.book.now a.key _ (subst (Ranks a.plain.now a.book.now a.key) (ap ranked_by c.in-Ok.is) c.line_told.ensures) a.named refl c.if-named-eq0.false c.if-named-eq1.true

pub returns-else-named-eq1 : goal.returns-else-named-eq1
returns-else-named-eq1 c =
    let a = c.args in
    looked_none a.plain.now a.book.now a.key _ (subst (Ranks a.plain.now a.book.now a.key) (ap ranked_by c.in-Ok.is) c.line_told.ensures) a.named refl c.if-named-eq0.false c.if-named-eq1.false
