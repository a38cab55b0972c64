-- Case by case in the order of the refusals; an index that was found is that of a line before the spares.
use Rattle.std.specs.Prelude.{◌≡◌, ◌+◌, ◌-◌, ◌*◌}
use Rattle.std.proofs.Common.{◌∙◌}
use Rattle.lists.specs.Basics.{sym, ap, ℕ, length-take, take, arith}
use Rattle.model.specs.Records.{records_accepted}
use Rattle.model.specs.Spares.{front}
use Rattle.sheet_laws.specs.Spared.{accepted_lines}
use Rattle.model.specs.Records.{records, ranked, placed}
use Rattle.lists.specs.Basics.{drop}
use Rattle.model.specs.Layouts.{record_bytes}
use Rattle.sheets.specs.Answers.{lookup_bad, lookup_out, lookup_none, lookup_met, is_found, front_fits}
use Rattle.sheets.proofs.lookup.lookup.Goals as goal

pub returns-then-not-sheet_ok : goal.returns-then-not-sheet_ok
returns-then-not-sheet_ok c =
    let a = c.args in
    (lookup_bad a.records.now a.key (sym c.sheet_ok.ensures ∙ c.if-not-sheet_ok.true)).part

pub returns-then-not-key_in_range : goal.returns-then-not-key_in_range
returns-then-not-key_in_range c =
    let a = c.args in
    (lookup_out a.records.now a.key ((sym c.sheet_ok.ensures ∙ c.if-not-sheet_ok.false)) (sym c.key_in_range.ensures ∙ c.if-not-key_in_range.true)).part

pub lines_end-end-requires : goal.lines_end-end-requires
lines_end-end-requires c = (sym c.sheet_ok.ensures ∙ c.if-not-sheet_ok.false)

pub slice_bounds-find-end : goal.slice_bounds-find-end
slice_bounds-find-end c = simp length-take (omega (arith, c.lines_end-end.ensures.is, c.lines_end-end.ensures.within))

pub find-requires : goal.find-requires
unfolding front
find-requires c =
    let a = c.args in
    record { records_value = ap (λ (n : ℕ). records_accepted (take n a.records.now)) c.lines_end-end.ensures.is ∙ accepted_lines a.records.now ((sym c.sheet_ok.ensures ∙ c.if-not-sheet_ok.false)); key_value = (sym c.key_in_range.ensures ∙ c.if-not-key_in_range.false) }

pub overflow_mul-at : goal.overflow_mul-at
unfolding front
overflow_mul-at c =
    let a = c.args in
    let e = front_fits a.records.now a.key _ (is_found (front record_bytes a.records.now) a.key (accepted_lines a.records.now ((sym c.sheet_ok.ensures ∙ c.if-not-sheet_ok.false))) (c.find.ensures ∙ ap (λ (n : ℕ). placed (ranked a.key (records (take n a.records.now)))) c.lines_end-end.ensures.is) ∙ c.in-Some.is) in omega arith

pub overflow_add-past : goal.overflow_add-past
unfolding front
overflow_add-past c =
    let a = c.args in
    let e = front_fits a.records.now a.key _ (is_found (front record_bytes a.records.now) a.key (accepted_lines a.records.now ((sym c.sheet_ok.ensures ∙ c.if-not-sheet_ok.false))) (c.find.ensures ∙ ap (λ (n : ℕ). placed (ranked a.key (records (take n a.records.now)))) c.lines_end-end.ensures.is) ∙ c.in-Some.is) in omega arith

pub slice_bounds-result-end-in-Some : goal.slice_bounds-result-end-in-Some
unfolding front
slice_bounds-result-end-in-Some c =
    let a = c.args in
    let e = front_fits a.records.now a.key _ (is_found (front record_bytes a.records.now) a.key (accepted_lines a.records.now ((sym c.sheet_ok.ensures ∙ c.if-not-sheet_ok.false))) (c.find.ensures ∙ ap (λ (n : ℕ). placed (ranked a.key (records (take n a.records.now)))) c.lines_end-end.ensures.is) ∙ c.in-Some.is) in omega arith

pub returns-in-Some : goal.returns-in-Some
unfolding front
returns-in-Some c =
    let a = c.args in
    let i = c.in-Some.i in let w : i * record_bytes + record_bytes - i * record_bytes ≡ record_bytes = omega arith in ap (λ (n : ℕ). take n (drop (i * record_bytes) a.records.now)) w ∙ lookup_met a.records.now a.key ((sym c.sheet_ok.ensures ∙ c.if-not-sheet_ok.false)) ((sym c.key_in_range.ensures ∙ c.if-not-key_in_range.false)) i (is_found (front record_bytes a.records.now) a.key (accepted_lines a.records.now ((sym c.sheet_ok.ensures ∙ c.if-not-sheet_ok.false))) (c.find.ensures ∙ ap (λ (n : ℕ). placed (ranked a.key (records (take n a.records.now)))) c.lines_end-end.ensures.is) ∙ c.in-Some.is)

pub returns-in-None : goal.returns-in-None
unfolding front
returns-in-None c =
    let a = c.args in
    lookup_none a.records.now a.key ((sym c.sheet_ok.ensures ∙ c.if-not-sheet_ok.false)) ((sym c.key_in_range.ensures ∙ c.if-not-key_in_range.false)) (is_found (front record_bytes a.records.now) a.key (accepted_lines a.records.now ((sym c.sheet_ok.ensures ∙ c.if-not-sheet_ok.false))) (c.find.ensures ∙ ap (λ (n : ℕ). placed (ranked a.key (records (take n a.records.now)))) c.lines_end-end.ensures.is) ∙ c.in-None.is)
