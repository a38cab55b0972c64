-- Case by case: too little room, refused, accepted.
use Rattle.std.specs.Prelude.{◌≡◌, ◌+◌}
use Rattle.std.proofs.Common.{◌∙◌}
use denote.Enum.Declared.{tag_of}
use Rattle.types.specs.contracts.Refusal.{the_type}
use Rattle.types.specs.declared.Refusal.{Refusal}
use Rattle.types.specs.declared.Refusal.TheVariants.{BadRecords, BadCoordinator, BadTransaction, WrongPhase, BadKey, NoSuchKey, BadColumns, NumbersSpent}
use Rattle.types.specs.declared.Refusal.TheVariants.{EntriesSpent, NotHeld, VersionsSpent, Busy, SheetsDiffer, HasLine, NoSpare, NotBlank}
use Rattle.model.specs.Refusals.{refusal_number}
use Rattle.lists.specs.Basics.{refl, sym, arith, ne_eqb}
use Rattle.answers.specs.Outcomes.{free_by, refused_by}
use Rattle.sweep.specs.Output.{little_work, little_output, left_refused, left_accepted}
use Rattle.sweep.proofs.run.Goals as goal

-- the number that a refusal has in the code is that of the table
cast_number : (r : Refusal) → tag_of the_type r + 1 ≡ refusal_number r
cast_number BadRecords = refl
cast_number BadCoordinator = refl
cast_number BadTransaction = refl
cast_number WrongPhase = refl
cast_number BadKey = refl
cast_number NoSuchKey = refl
cast_number BadColumns = refl
cast_number NumbersSpent = refl
cast_number EntriesSpent = refl
cast_number NotHeld = refl
cast_number VersionsSpent = refl
cast_number Busy = refl
cast_number SheetsDiffer = refl
cast_number HasLine = refl
cast_number NoSpare = refl
cast_number NotBlank = refl

pub returns-then-work-lt-MOST_RECORD_BYTES : goal.returns-then-work-lt-MOST_RECORD_BYTES
returns-then-work-lt-MOST_RECORD_BYTES c =
    let a = c.args in
    let l = little_work a.input.now a.work.now a.output.now (omega (arith, c.if-work-lt-MOST_RECORD_BYTES.true)) in
    record { answer = l.answer; output = l.printed_bytes; work = l.work_bytes }

pub returns-then-output-lt-MOST_OUTPUT : goal.returns-then-output-lt-MOST_OUTPUT
returns-then-output-lt-MOST_OUTPUT c =
    let a = c.args in
    let l = little_output a.input.now a.work.now a.output.now (omega (arith, c.if-output-lt-MOST_OUTPUT.true)) in
    record { answer = l.answer; output = l.printed_bytes; work = l.work_bytes }

pub returns-in-Ok : goal.returns-in-Ok
returns-in-Ok c =
    let a = c.args in
    let l = left_accepted a.input.now a.work.now a.output.now (omega (arith, c.if-work-lt-MOST_RECORD_BYTES.false)) (omega (arith, c.if-output-lt-MOST_OUTPUT.false)) _ _ _ (free_by c.check.ensures c.in-Ok.is) c.print_sheets.ensures.answer c.print_sheets.ensures.output c.print_sheets.ensures.work in
    record { answer = l.answer; output = l.printed_bytes; work = l.work_bytes }

pub returns-in-Err : goal.returns-in-Err
returns-in-Err c =
    let a = c.args in
    let r = refused_by c.check.ensures c.in-Err.is in
    let l = left_refused a.input.now a.work.now a.output.now (omega (arith, c.if-work-lt-MOST_RECORD_BYTES.false)) (omega (arith, c.if-output-lt-MOST_OUTPUT.false)) _ _ _ (cast_number c.in-Err.refusal ∙ r.0) (ne_eqb _ 0 (λ z. r.1 (sym (cast_number c.in-Err.refusal ∙ r.0) ∙ z))) c.print_refusal.ensures.0 c.print_refusal.ensures.1 in
    record { answer = l.answer; output = l.printed_bytes; work = l.work_bytes }
