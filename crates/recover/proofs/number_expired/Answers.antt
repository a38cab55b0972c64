-- The loop's invariant: no line before i has kept the number from having expired, so that those from i on decide as all do. One that does ends it.
use Rattle.std.specs.Prelude.{◌/◌, ◌≤◌, ◌<◌}
use Rattle.std.proofs.Common.{◌∙◌}
use Rattle.lists.specs.Basics.{sym, length, arith}
use Rattle.model.specs.Layouts.{record_bytes}
use Rattle.recover.specs.Clocks.{allow_first, allow_not, allow_next, allow_last}
use Rattle.recover.proofs.number_expired.Goals as goal

pub loop-i-init : goal.loop-i-init
loop-i-init c = allow_first _ _ _

pub line_allows-requires : goal.line_allows-requires
line_allows-requires c = c.requires

pub returns-then-not-line_allows : goal.returns-then-not-line_allows
returns-then-not-line_allows c =
    let a = c.args in
    let i = c.loop-i.i in
    let l : i < length a.records.now / record_bytes = omega (arith, c.loop-i-test.true, c.count-count.ensures) in
    allow_not a.clock a.n a.records.now i l c.loop-i.invariant (sym c.line_allows.ensures ∙ c.if-not-line_allows.true)

pub loop-i-preserved : goal.loop-i-preserved
loop-i-preserved c =
    let a = c.args in
    let i = c.loop-i.i in
    let l : i < length a.records.now / record_bytes = omega (arith, c.loop-i-test.true, c.count-count.ensures) in
    allow_next a.clock a.n a.records.now i l c.loop-i.invariant (sym c.line_allows.ensures ∙ c.if-not-line_allows.false)

pub returns : goal.returns
returns c =
    let a = c.args in
    let l : length a.records.now / record_bytes ≤ c.loop-i.i = omega (arith, c.loop-i-test.false, c.count-count.ensures) in
    allow_last a.clock a.n a.records.now c.loop-i.i l c.loop-i.invariant
