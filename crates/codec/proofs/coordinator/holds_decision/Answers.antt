-- The ten bytes behind the line's number are compared with the word of the decision's number.
use Rattle.std.proofs.Common.{◌∙◌}
use Rattle.lists.specs.Basics.{ap, ℕ, arith, eq_list}
use Rattle.model.specs.Types.{DecisionWord}
use Rattle.model.specs.Layouts.{offset, line_layout, word_at}
use Rattle.sheet_laws.specs.Singles.{decision_word}
use Rattle.codec.specs.Casts.{decision_cast}
use Rattle.codec.specs.Parts.{line_ends}
use Rattle.codec.proofs.coordinator.holds_decision.Goals as goal

pub is_word_at-requires : goal.is_word_at-requires
is_word_at-requires c =
    let e = line_ends c.args.n c.args.coordinator.now c.requires in
    omega arith

pub returns : goal.returns
unfolding offset line_layout
returns c =
    let a = c.args in
    c.is_word_at.ensures ∙ ap (λ (k : ℕ). eq_list (decision_word a.n a.coordinator.now) (word_at DecisionWord k)) (decision_cast a.d)
