-- What is asked is the call of this name, of a new transaction.
use Rattle.std.proofs.Common.{◌∙◌}
use Rattle.lists.specs.Basics.{ap}
use Rattle.model.specs.Types.{Transaction}
use Rattle.model.specs.Results as model
use Rattle.model.specs.Operations.{once}
use Rattle.model.specs.Requests.{operation_of}
use Rattle.model.specs.TwoCalls.{response_two}
use Rattle.answers.specs.Answers.{to_performed}
use Rattle.two_check.specs.Areas.{two}
use Rattle.two_engine.proofs.begin.Goals as goal

pub returns : goal.returns
unfolding operation_of
returns c =
    let a = c.args in
    (c.perform.ensures.answer ∙ ap (λ (u : Transaction). to_performed u (response_two (once (model.begin a.serializable)) (two a.plain.now a.book.now a.coordinator.now))) c.new_transaction-none.ensures, (c.perform.ensures.plain, (c.perform.ensures.bookkeeping, c.perform.ensures.decisions)))
