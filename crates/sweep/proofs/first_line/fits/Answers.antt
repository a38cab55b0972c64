-- Case by case: too short, not well set, or as long as its numbers say.
use Rattle.std.specs.Prelude.{◌+◌, ◌*◌}
use Rattle.std.proofs.Common.{◌∙◌}
use Rattle.lists.specs.Basics.{sym, ap, subst, ℕ, eqb, length, arith}
use Rattle.sweep.specs.declared.FirstLine.{FirstLine}
use Rattle.sweep.specs.FirstLine.{Small, records_from, short_unfit, unset_unfit, set-fits, first_small}
use Rattle.model.specs.Layouts.{record_bytes}
use Rattle.sweep.proofs.first_line.fits.Goals as goal

pub returns-then-input-lt-FIRST_BYTES : goal.returns-then-input-lt-FIRST_BYTES
returns-then-input-lt-FIRST_BYTES c = sym (short_unfit c.args.input.now (omega (arith, c.if-input-lt-FIRST_BYTES.true)))

pub returns-then-not-well_set : goal.returns-then-not-well_set
returns-then-not-well_set c = sym (unset_unfit c.args.input.now (sym c.well_set.ensures ∙ c.if-not-well_set.true))

pub records_from-requires : goal.records_from-requires
records_from-requires c = subst Small (sym c.numbers-first.ensures) (first_small c.args.input.now)

pub returns : goal.returns
returns c =
    let a = c.args in
    ap (λ (n : ℕ). eqb (length a.input.now) (n + c.numbers-first.result.lines * record_bytes)) c.records_from.ensures
    ∙ (ap (λ (f : FirstLine). eqb (length a.input.now) (records_from f + f.lines * record_bytes)) c.numbers-first.ensures
    ∙ sym (set-fits a.input.now (sym c.well_set.ensures ∙ c.if-not-well_set.false)))
