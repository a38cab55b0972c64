-- The word compared tells the before state.
use Rattle.std.proofs.Common.{◌∙◌}
use Rattle.lists.specs.Basics.{sym, ap, Bool, cond}
use Rattle.types.specs.declared.State.TheVariants.{Absent, Committed}
use Rattle.model.specs.Layouts.{record_layout, offset}
use Rattle.model.specs.Records.{before_number}
use Rattle.codec.specs.Parts.{back-said}
use Rattle.codec.proofs.reading.before_state.Goals as goal

pub returns-then-has_word : goal.returns-then-has_word
unfolding record_layout offset before_number
returns-then-has_word c = ap (λ (b : Bool). cond b Committed Absent) (sym c.if-has_word.true ∙ c.has_word.ensures) ∙ back-said c.args.records.now c.args.i

pub returns-else-has_word : goal.returns-else-has_word
unfolding record_layout offset before_number
returns-else-has_word c = ap (λ (b : Bool). cond b Committed Absent) (sym c.if-has_word.false ∙ c.has_word.ensures) ∙ back-said c.args.records.now c.args.i
