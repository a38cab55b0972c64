-- The ten bytes compared tell the state.
use Rattle.std.proofs.Common.{◌∙◌}
use Rattle.lists.specs.Basics.{sym, ap, Bool, cond, arith}
use Rattle.types.specs.declared.Before.TheVariants.{Absent, Committed}
use Rattle.model.specs.Layouts.{record_layout, offset}
use Rattle.model.specs.Records.{state_number}
use Rattle.sheet_laws.specs.Singles.{kept_told}
use Rattle.codec.proofs.writing.state_kept.Goals as goal

pub is_word_at-requires : goal.is_word_at-requires
is_word_at-requires c = let n = c.requires in omega (arith, n)

pub returns-then-is_word_at : goal.returns-then-is_word_at
unfolding record_layout offset state_number
returns-then-is_word_at c = ap (λ (b : Bool). cond b Committed Absent) (sym c.if-is_word_at.true ∙ c.is_word_at.ensures) ∙ kept_told c.args.line.now c.requires

pub returns-else-is_word_at : goal.returns-else-is_word_at
unfolding record_layout offset state_number
returns-else-is_word_at c = ap (λ (b : Bool). cond b Committed Absent) (sym c.if-is_word_at.false ∙ c.is_word_at.ensures) ∙ kept_told c.args.line.now c.requires
