use Rattle.std.specs.Prelude.{◌≡◌}
use Rattle.std.proofs.Common.{◌∙◌}
use Rattle.lists.specs.Basics.{ap₂, rules}
use Rattle.model.specs.Types.{Record}
use Rattle.model.specs.Records.{key_less}
use Rattle.codec.specs.Orders.{key_order, key_order_is}
use Rattle.numbers.proofs.rows.rises.Goals as goal

pub returns : goal.returns
returns c =
    let a = c.record_of.result in
    let b = c.record_of-2.result in
    let e : c.lt.result ≡ key_order a.key b.key = search rules in
    e ∙ (key_order_is a.key b.key ∙ ap₂ (λ (x y : Record). key_less x.key y.key) c.record_of.ensures c.record_of-2.ensures)
