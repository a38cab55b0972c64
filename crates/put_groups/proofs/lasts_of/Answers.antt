-- The entries before i are judged.
use Rattle.std.specs.Prelude.{◌≡◌, ◌<◌, ◌-◌}
use Rattle.std.proofs.Common.{◌∙◌}
use Rattle.lists.specs.Basics.{sym, ap, List, length, take_all, length-drop, drop, get_or, arith}
use Rattle.model.specs.Types.{Entry, None}
use Rattle.model.specs.Transactions.{held}
use Rattle.transactions.specs.Units.{units_in}
use Rattle.put_groups.specs.Scopes.{last_scope, last_scopes, no_scopes}
use Rattle.put_groups.specs.GroupsIn.{filled_next, filled_last, length_lasts, last_at}
use Rattle.put_groups.proofs.lasts_of.Goals as goal

pub loop-i-preserved : goal.loop-i-preserved
loop-i-preserved c =
    let us = units_in c.args.letters.now in
    let es = held c.args.t.now in
    let i = c.loop-i.i in
    let n = ap length c.held-entries.ensures.entries in
    let few = c.held-entries.ensures.few in
    let l : i < length es = omega (arith, c.loop-i-test.true, n) in
    let v : c.last_scope.result ≡ get_or (last_scopes us es) i None =
    let xs = c.held-entries.result.now in
    let whole = take_all (length xs - i) (drop i xs) (simp length-drop (omega arith)) in
    rw whole at c.last_scope.ensures ∙ (ap (λ (x : List Entry). last_scope us (drop i x)) c.held-entries.ensures.entries ∙ sym (last_at us es i)) in
    (omega (arith, l), rw c.loop-i.invariant.1 (filled_next (last_scopes us es) no_scopes None c.last_scope.result i (omega (arith, l, length_lasts us es)) (omega (arith, l, n, few)) v))

pub returns : goal.returns
returns c =
    let us = units_in c.args.letters.now in
    let es = held c.args.t.now in
    let n = ap length c.held-entries.ensures.entries in
    c.loop-i.invariant.1 ∙ filled_last (last_scopes us es) no_scopes (length es) c.loop-i.i (length_lasts us es) c.loop-i.invariant.0 (omega (arith, n, c.loop-i-test.false))
