-- Each sheet without its spares, beside an empty one.
use Rattle.std.proofs.Common.{◌∙◌}
use Rattle.lists.specs.Basics.{refl, sym, ap, eqb-true, eqb-false, [], ℕ, length-take, take, arith}
use Rattle.model.specs.TwoSheets.{plain_bytes, bookkeeping_bytes}
use Rattle.sheet_laws.specs.Fronts.{sized-whole}
use Rattle.model.specs.Spares.{front}
use Rattle.model.specs.Refusals.{refusal_of, refused_with}
use Rattle.model.specs.Told.{numbered}
use Rattle.model.specs.TwoSheets.{full_conditions}
use Rattle.model.specs.TwoSpares.{plain_lines, bookkeeping_lines}
use Rattle.two_engine.specs.Forms.{front-plain, front-bookkeeping, unequal_plain, unequal_passed, unequal_refused}
use Rattle.two_engine.proofs.unequal.Goals as goal

pub front_end-p-requires : goal.front_end-p-requires
front_end-p-requires c =
    let a = c.args in
    record { s_len = sized-whole plain_bytes a.plain.now c.requires.0; le_width = omega arith; width_le_record_bytes = omega arith }

pub slice_bounds-check-end : goal.slice_bounds-check-end
slice_bounds-check-end c =
    let a = c.args in
    simp length-take (omega (arith, c.front_end-p.ensures, front-plain a.plain.now a.book.now a.coordinator.now c.requires.0 c.requires.1))

pub returns-then-is_bad : goal.returns-then-is_bad
unfolding front
returns-then-is_bad c =
    let a = c.args in
    unequal_plain (plain_lines a.plain.now) (bookkeeping_lines a.book.now) a.coordinator.now _ (c.check-first.ensures ∙ ap (λ (n : ℕ). refusal_of (full_conditions (take n a.plain.now) [] a.coordinator.now)) c.front_end-p.ensures) (eqb-true _ 1 (sym c.is_bad.ensures ∙ c.if-is_bad.true))

pub front_end-b-requires : goal.front_end-b-requires
front_end-b-requires c =
    let a = c.args in
    record { s_len = sized-whole bookkeeping_bytes a.book.now c.requires.1; le_width = omega arith; width_le_record_bytes = omega arith }

pub slice_bounds-check-end-4 : goal.slice_bounds-check-end-4
slice_bounds-check-end-4 c =
    let a = c.args in
    simp length-take (omega (arith, c.front_end-b.ensures, front-bookkeeping a.plain.now a.book.now a.coordinator.now c.requires.0 c.requires.1))

pub returns-in-Ok : goal.returns-in-Ok
unfolding front
returns-in-Ok c =
    let a = c.args in
    unequal_passed (plain_lines a.plain.now) (bookkeeping_lines a.book.now) a.coordinator.now _ (c.check-first.ensures ∙ ap (λ (n : ℕ). refusal_of (full_conditions (take n a.plain.now) [] a.coordinator.now)) c.front_end-p.ensures) (eqb-false _ 1 (sym c.is_bad.ensures ∙ c.if-is_bad.false)) _ (ap refused_with (sym c.in-Ok.is) ∙ (c.check.ensures ∙ ap (λ (n : ℕ). refusal_of (full_conditions [] (take n a.book.now) a.coordinator.now)) c.front_end-b.ensures)) refl

pub returns-in-Err : goal.returns-in-Err
unfolding front
returns-in-Err c =
    let a = c.args in
    unequal_refused (plain_lines a.plain.now) (bookkeeping_lines a.book.now) a.coordinator.now _ (c.check-first.ensures ∙ ap (λ (n : ℕ). refusal_of (full_conditions (take n a.plain.now) [] a.coordinator.now)) c.front_end-p.ensures) (eqb-false _ 1 (sym c.is_bad.ensures ∙ c.if-is_bad.false)) _ (ap refused_with (sym c.in-Err.is) ∙ (c.check.ensures ∙ ap (λ (n : ℕ). refusal_of (full_conditions [] (take n a.book.now) a.coordinator.now)) c.front_end-b.ensures)) (numbered _)
