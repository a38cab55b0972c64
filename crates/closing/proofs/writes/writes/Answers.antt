-- By the phase; in done, or in no phase, nothing is written.
use Rattle.std.proofs.Common.{◌∙◌, inl, inr}
use Rattle.transactions.specs.Phases.{missed_from}
use Rattle.lists.specs.Basics.{refl, arith}
use Rattle.transactions.specs.declared.phases.Phase.TheVariants.{Open, Prepare, Validate, Decide, Withdraw, Finish, Undo, Done}
use Rattle.transactions.specs.Numbers.{numbered}
use Rattle.model.specs.Closing.{changes}
use Rattle.steps.specs.Ready.{may_write}
use Rattle.closing.specs.Writes.{in_order_lem, writes_at, none_writes, open_writes, prepare_writes, validate_writes, decide_writes, withdraw_writes}
use Rattle.closing.specs.Writes.{finish_writes, undo_writes}
use Rattle.closing.proofs.writes.writes.Goals as goal

pub open_writes-requires : goal.open_writes-requires
open_writes-requires c = may_write _ _ _ _ c.requires

pub puts_group-requires : goal.puts_group-requires
puts_group-requires c = may_write _ _ _ _ c.requires

pub rolls_group-requires : goal.rolls_group-requires
rolls_group-requires c = may_write _ _ _ _ c.requires

pub returns-in-Open : goal.returns-in-Open
returns-in-Open c = λ now. writes_at _ _ now 0 _ (numbered Open c.in-Ok.ensures c.in-Open.is) (c.open_writes.ensures ∙ open_writes _ _)

pub returns-in-Prepare : goal.returns-in-Prepare
returns-in-Prepare c = λ now. writes_at _ _ now 1 _ (numbered Prepare c.in-Ok.ensures c.in-Prepare.is) (c.puts_group.ensures ∙ prepare_writes _ _ now)

pub returns-in-Decide : goal.returns-in-Decide
returns-in-Decide c = λ now.
    let n = c.in-Ok.ensures in
    elim c.in-Decide.is [
      | inl e ↦ writes_at _ _ now 3 _ (numbered Decide n e) (c.undecided.ensures ∙ decide_writes _ _)
      | inr e ↦ writes_at _ _ now 4 _ (numbered Withdraw n e) (c.undecided.ensures ∙ withdraw_writes _ _)
    ]

pub returns-in-Finish : goal.returns-in-Finish
returns-in-Finish c = λ now.
    let n = c.in-Ok.ensures in
    let o = in_order_lem _ _ _ _ c.requires in
    elim c.in-Finish.is [
      | inl e ↦ writes_at _ _ now 5 _ (numbered Finish n e) (c.rolls_group.ensures ∙ finish_writes _ _ o)
      | inr e ↦ writes_at _ _ now 6 _ (numbered Undo n e) (c.rolls_group.ensures ∙ undo_writes _ _ o)
    ]

pub returns-in-Validate : goal.returns-in-Validate
unfolding changes
returns-in-Validate c = λ now.
    let n = c.in-Ok.ensures in
    elim c.in-Validate.is [
      | inl e ↦ writes_at _ _ now 2 _ (numbered Validate n e) (validate_writes _ _)
      | inr e ↦ writes_at _ _ now 7 _ (numbered Done n e) refl
    ]

pub returns-in_default : goal.returns-in_default
returns-in_default c = λ now. none_writes _ _ now (missed_from 7 _ (omega (arith, c.in_default.ensures.1)))
