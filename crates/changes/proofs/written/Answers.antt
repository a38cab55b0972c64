-- Refused by a length, or both loops told.
use Rattle.std.proofs.Common.{◌∙◌}
use Rattle.lists.specs.Basics.{refl}
use Rattle.changes.specs.Answers.{written_refused, written-told}
use Rattle.changes.proofs.written.Goals as goal

pub returns-in-Err-clause-answer : goal.returns-in-Err-clause-answer
returns-in-Err-clause-answer c = (written_refused _ _ _ _ _ _ (c.number.ensures.value ∙ c.in-Err.ensures.answer) c.number.ensures.lower_bound).0

pub returns-in-Err-clause-target : goal.returns-in-Err-clause-target
returns-in-Err-clause-target c = (written_refused _ _ _ _ _ _ (c.number.ensures.value ∙ c.in-Err.ensures.answer) c.number.ensures.lower_bound).1

pub returns-clause-answer : goal.returns-clause-answer
returns-clause-answer c =
    (written-told _ _ _ _ _ _ _ _ _ _ c.in_default.ensures.answer refl c.last_reach-reach.ensures.value c.first_differing-first.ensures.value c.eq.ensures c.told.ensures).0

pub returns-clause-target : goal.returns-clause-target
returns-clause-target c =
    (written-told _ _ _ _ _ _ _ _ _ _ c.in_default.ensures.answer refl c.last_reach-reach.ensures.value c.first_differing-first.ensures.value c.eq.ensures c.told.ensures).1
