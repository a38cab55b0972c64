-- No line before i begins so; line i agrees from field f on. A field that differs passes the line, and five that agree are a match.
use Rattle.std.specs.Prelude.{◌-◌, ◌/◌, ◌≤◌, ◌<◌}
use Rattle.std.proofs.Common.{◌∙◌}
use Rattle.lists.specs.Basics.{refl, sym, length, arith}
use Rattle.sheets.specs.Search.{agree-first, agree_next, pass-met, pass_next, pass_last}
use Rattle.lists.specs.Walks.{left-first}
use Rattle.model.specs.Layouts.{record_bytes}
use Rattle.sheets.proofs.lookup.find_line.Goals as goal
use Rattle.sheets.proofs.lookup.find_line.Goals.{else-lines-test, then-lines-test+else-loop-f-test}

pub lines-init : goal.lines-init
lines-init c = (refl, left-first _ _)

pub loop-f-init : goal.loop-f-init
loop-f-init c = (refl, agree-first _ _ _)

pub same_field-requires : goal.same_field-requires
same_field-requires c = (omega (arith, c.loop-f.invariant.1.reached), (omega arith, c.requires))

pub lines-preserved : goal.lines-preserved
lines-preserved c = (c.lines.invariant.0, rw c.loop-f.invariant.0 (pass_next _ _ _ (omega arith) c.lines.invariant.1 (c.loop-f.f - 1) (omega (arith, c.loop-f.invariant.1.reached)) (sym c.same_field.ensures ∙ c.if-not-same_field.true)))

pub loop-f-preserved : goal.loop-f-preserved
loop-f-preserved c = (c.loop-f.invariant.0, agree_next _ _ _ c.loop-f.f (c.loop-f.f - 1) (omega (arith, c.loop-f-test.true)) (omega (arith, c.loop-f.invariant.1.reached)) (sym c.same_field.ensures ∙ c.if-not-same_field.false) c.loop-f.invariant.1)

pub returns-then-i-n : goal.returns-then-i-n
returns-then-i-n c =
    elim c.lines-test.branch [
      | else-lines-test w ↦ absurd (omega arith)
      | then-lines-test+else-loop-f-test w ↦
          let here : c.lines.i < length c.args.records.now / record_bytes = omega arith in
          rw (w.i-is, w.loop-f.invariant.0) (pass-met _ _ _ here c.lines.invariant.1 _ w.loop-f-test.false w.loop-f.invariant.1)
    ]

pub returns-else-i-n : goal.returns-else-i-n
returns-else-i-n c =
    elim c.lines-test.branch [
      | else-lines-test w ↦
          let past : length c.args.records.now / record_bytes ≤ c.lines.i = omega arith in
          pass_last _ c.args.text.now _ past c.lines.invariant.1
      | then-lines-test+else-loop-f-test w ↦ absurd (omega arith)
    ]
