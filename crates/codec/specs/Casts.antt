-- An enum cast to its number is the number that the model gives it, and what the derived test of a before state is.
use Rattle.std.specs.Prelude.{◌≡◌, refl, true, false}
use Rattle.types.specs.declared.State.{State}
use Rattle.types.specs.declared.State.TheVariants as Now
use Rattle.types.specs.declared.Before.{Before}
use Rattle.types.specs.declared.Before.TheVariants as Was
use Rattle.types.specs.declared.Decision.{Decision}
use Rattle.types.specs.declared.Decision.TheVariants.{Undecided, Committed, Aborted}
use Rattle.types.specs.contracts.State as StateType
use Rattle.types.specs.contracts.Before as BeforeType
use Rattle.types.specs.contracts.Decision as DecisionType
use Rattle.model.specs.Records.{state_number, before_number, by_before}
use Rattle.model.specs.Coordinator.{decision_number}
use denote.Enum.Declared.{tag_of}
use denote.Enum.Bare.{sameb}

pub state_cast : (s : State) → tag_of StateType.the_type s ≡ state_number s
unfolding state_number
state_cast Now.Absent = refl
state_cast Now.Committed = refl
state_cast Now.Prepared = refl

pub before_cast : (b : Before) → tag_of BeforeType.the_type b ≡ before_number b
unfolding before_number
before_cast Was.Nothing = refl
before_cast Was.Absent = refl
before_cast Was.Committed = refl

pub decision_cast : (d : Decision) → tag_of DecisionType.the_type d ≡ decision_number d
unfolding decision_number
decision_cast Undecided = refl
decision_cast Committed = refl
decision_cast Aborted = refl

pub nothing_test : (b : Before) → sameb BeforeType.the_type b Was.Nothing ≡ by_before b true false false
nothing_test Was.Nothing = refl
nothing_test Was.Absent = refl
nothing_test Was.Committed = refl
