-- Something is to be validated exactly if the count is not 0.
use Rattle.model.specs.Transactions.{to_validate}
use Rattle.transactions.specs.Held.{some_counted}
use Rattle.transactions.specs.Units.{units_in}
use Rattle.transactions.proofs.validates.Goals as goal

pub returns : goal.returns
returns c =
    let a = c.args in
    rw c.validate_count.ensures (some_counted (to_validate (units_in a.letters.now) a.t))
