-- By the kind.
use Rattle.lists.specs.Basics.{bytes}
use Rattle.model.specs.Layouts.{words}
use Rattle.codec.specs.Words.{all_words}
use Rattle.codec.proofs.layouts.place.Goals as goal

pub returns-in-Figure-clause-words : goal.returns-in-Figure-clause-words
unfolding words all_words bytes
returns-in-Figure-clause-words c = rw c.in-Figure.is

pub returns-in-StateWord-clause-words : goal.returns-in-StateWord-clause-words
unfolding words all_words bytes
returns-in-StateWord-clause-words c = rw c.in-StateWord.is

pub returns-in-BeforeWord-clause-words : goal.returns-in-BeforeWord-clause-words
unfolding words all_words bytes
returns-in-BeforeWord-clause-words c = rw c.in-BeforeWord.is

pub returns-in-DecisionWord-clause-words : goal.returns-in-DecisionWord-clause-words
unfolding words all_words bytes
returns-in-DecisionWord-clause-words c = rw c.in-DecisionWord.is

pub returns-in-UnitLetter-clause-words : goal.returns-in-UnitLetter-clause-words
unfolding words all_words bytes
returns-in-UnitLetter-clause-words c = rw c.in-UnitLetter.is
