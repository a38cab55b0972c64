-- The rank is kept between low and high: the line in the middle has a smaller key exactly if it stands below the rank.
use Rattle.std.specs.Prelude.{◌≡◌, ◌+◌, ◌-◌, ◌/◌}
use Rattle.std.proofs.Common.{◌∙◌}
use Rattle.lists.specs.Basics.{ap, arith, rules}
use Rattle.model.specs.Types.{Key}
use Rattle.model.specs.Records.{key_less}
use Rattle.codec.specs.Orders.{key_order, key_order_is}
use Rattle.sheets.specs.Search.{between_first, between_last, between_behind, between_before}
use Rattle.sheets.proofs.lookup.below.Goals as goal

pub loop-low-init : goal.loop-low-init
loop-low-init c =
    let a = c.args in
    between_first a.records.now a.key

pub overflow_add-middle : goal.overflow_add-middle
overflow_add-middle c = omega (arith, c.loop-low.invariant.inside)

pub overflow_add-low : goal.overflow_add-low
overflow_add-low c = omega (arith, c.loop-low.invariant.inside)

pub loop-low-preserved-then-lt : goal.loop-low-preserved-then-lt
loop-low-preserved-then-lt c =
    let a = c.args in
    let l = c.loop-low in
    let o : c.lt.result ≡ key_order c.key.result a.key = search rules in
    between_behind a.records.now a.key c.requires l.low l.high (l.low + (l.high - l.low) / 2) l.invariant (omega arith) _ (o ∙ (key_order_is c.key.result a.key ∙ ap (λ (x : Key). key_less x a.key) c.key.ensures)) c.if-lt.true

pub loop-low-preserved : goal.loop-low-preserved
loop-low-preserved c =
    let a = c.args in
    let l = c.loop-low in
    let o : c.lt.result ≡ key_order c.key.result a.key = search rules in
    between_before a.records.now a.key c.requires l.low l.high (l.low + (l.high - l.low) / 2) l.invariant (omega arith) _ (o ∙ (key_order_is c.key.result a.key ∙ ap (λ (x : Key). key_less x a.key) c.key.ensures)) c.if-lt.false

pub returns : goal.returns
returns c =
    let a = c.args in
    let l = c.loop-low in
    between_last a.records.now a.key l.low l.high l.invariant (omega arith)
