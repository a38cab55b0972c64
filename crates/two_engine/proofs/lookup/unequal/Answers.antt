-- Each sheet without its spares, beside an empty one.
use Rattle.std.proofs.Common.{◌∙◌}
use Rattle.lists.specs.Basics.{sym, ap, eqb-true, eqb-false, [], ℕ, length-take, take, arith}
use Rattle.model.specs.TwoSheets.{plain_bytes, bookkeeping_bytes}
use Rattle.sheet_laws.specs.Fronts.{sized-whole}
use Rattle.model.specs.Spares.{front}
use Rattle.model.specs.TwoSheets.{plain_alone, bookkeeping_alone, rank_full}
use Rattle.model.specs.TwoSpares.{plain_lines, bookkeeping_lines}
use Rattle.two_engine.specs.Forms.{ranked-refused, unequal_keys, front-plain, front-bookkeeping, keys_plain, keys_bookkeeping, keys_first, keys_second, keys_last}
use Rattle.two_engine.proofs.lookup.unequal.Goals as goal

pub front_end-p-requires : goal.front_end-p-requires
front_end-p-requires c =
    let a = c.args in
    record { s_len = sized-whole plain_bytes a.plain.now c.requires.0; le_width = omega arith; width_le_record_bytes = omega arith }

pub slice_bounds-rank_of-end : goal.slice_bounds-rank_of-end
slice_bounds-rank_of-end c =
    let a = c.args in
    simp length-take (omega (arith, c.front_end-p.ensures, front-plain a.plain.now a.book.now [] c.requires.0 c.requires.1))

pub returns-then-is_bad : goal.returns-then-is_bad
unfolding front unequal_keys
returns-then-is_bad c =
    let a = c.args in
    keys_first a.key (plain_alone (plain_lines a.plain.now)) (bookkeeping_alone (bookkeeping_lines a.book.now)) ((keys_plain a.key (plain_lines a.plain.now) (bookkeeping_lines a.book.now) _ (c.rank_of-first.ensures.told ∙ ap (λ (n : ℕ). rank_full (take n a.plain.now) [] a.key) c.front_end-p.ensures)).0 (ranked-refused _ ∙ eqb-true _ 1 (sym c.is_bad.ensures ∙ c.if-is_bad.true)))

pub front_end-b-requires : goal.front_end-b-requires
front_end-b-requires c =
    let a = c.args in
    record { s_len = sized-whole bookkeeping_bytes a.book.now c.requires.1; le_width = omega arith; width_le_record_bytes = omega arith }

pub slice_bounds-rank_of-end-4 : goal.slice_bounds-rank_of-end-4
slice_bounds-rank_of-end-4 c =
    let a = c.args in
    simp length-take (omega (arith, c.front_end-b.ensures, front-bookkeeping a.plain.now a.book.now [] c.requires.0 c.requires.1))

pub returns-then-is_bad-2 : goal.returns-then-is_bad-2
unfolding front unequal_keys
returns-then-is_bad-2 c =
    let a = c.args in
    keys_second a.key (plain_alone (plain_lines a.plain.now)) (bookkeeping_alone (bookkeeping_lines a.book.now)) ((keys_plain a.key (plain_lines a.plain.now) (bookkeeping_lines a.book.now) _ (c.rank_of-first.ensures.told ∙ ap (λ (n : ℕ). rank_full (take n a.plain.now) [] a.key) c.front_end-p.ensures)).1 (λ z. eqb-false _ 1 (sym c.is_bad.ensures ∙ c.if-is_bad.false) (sym (ranked-refused _) ∙ z))) ((keys_bookkeeping a.key (plain_lines a.plain.now) (bookkeeping_lines a.book.now) _ (c.rank_of-second.ensures.told ∙ ap (λ (n : ℕ). rank_full [] (take n a.book.now) a.key) c.front_end-b.ensures)).0 (ranked-refused _ ∙ eqb-true _ 1 (sym c.is_bad-2.ensures ∙ c.if-is_bad-2.true)))

pub returns : goal.returns
unfolding front unequal_keys
returns c =
    let a = c.args in
    keys_last a.key (plain_alone (plain_lines a.plain.now)) (bookkeeping_alone (bookkeeping_lines a.book.now)) ((keys_plain a.key (plain_lines a.plain.now) (bookkeeping_lines a.book.now) _ (c.rank_of-first.ensures.told ∙ ap (λ (n : ℕ). rank_full (take n a.plain.now) [] a.key) c.front_end-p.ensures)).1 (λ z. eqb-false _ 1 (sym c.is_bad.ensures ∙ c.if-is_bad.false) (sym (ranked-refused _) ∙ z))) ((keys_bookkeeping a.key (plain_lines a.plain.now) (bookkeeping_lines a.book.now) _ (c.rank_of-second.ensures.told ∙ ap (λ (n : ℕ). rank_full [] (take n a.book.now) a.key) c.front_end-b.ensures)).1 (λ z. eqb-false _ 1 (sym c.is_bad-2.ensures ∙ c.if-is_bad-2.false) (sym (ranked-refused _) ∙ z)))
