-- By the phase; in done, or in no phase, nothing is done.
use Rattle.transactions.specs.declared.phases.Phase.TheVariants.{Open, Prepare, Validate, Decide, Withdraw, Finish, Undo, Done}
use Rattle.transactions.specs.Numbers.{numbered}
use Rattle.transactions.specs.Phases.{missed_from}
use Rattle.lists.specs.Basics.{refl, arith}
use Rattle.steps.specs.Ready.{records_accepted_lem, coordinator_readable_lem, known}
use Rattle.steps.specs.Stepped.{wrote_nothing}
use Rattle.steps.specs.Cases.{stepped_as, step_at_lem, step-none}
use Rattle.steps.proofs.step.Goals as goal

pub open-requires : goal.open-requires
open-requires c = c.requires

pub prepare-requires : goal.prepare-requires
prepare-requires c =
    record { ready = c.requires; phase = numbered Prepare c.in-Ok.ensures c.in-Prepare.is }

pub validate-requires : goal.validate-requires
validate-requires c =
    record { ready = c.requires; phase = numbered Validate c.in-Ok.ensures c.in-Validate.is }

pub decide-requires : goal.decide-requires
decide-requires c = known _ _ _ _ c.requires

pub withdraw-requires : goal.withdraw-requires
withdraw-requires c = known _ _ _ _ c.requires

pub finish-requires : goal.finish-requires
finish-requires c =
    record { ready = c.requires; phase = numbered Finish c.in-Ok.ensures c.in-Finish.is }

pub undo-requires : goal.undo-requires
undo-requires c =
    record { ready = c.requires; phase = numbered Undo c.in-Ok.ensures c.in-Undo.is }

pub returns-in-Open : goal.returns-in-Open
returns-in-Open c = stepped_as (step_at_lem _ _ _ 0 (numbered Open c.in-Ok.ensures c.in-Open.is)) c.before.before.«open».ensures

pub returns-in-Prepare : goal.returns-in-Prepare
returns-in-Prepare c = stepped_as (step_at_lem _ _ _ 1 (numbered Prepare c.in-Ok.ensures c.in-Prepare.is)) c.prepare.ensures

pub returns-in-Validate : goal.returns-in-Validate
returns-in-Validate c = stepped_as (step_at_lem _ _ _ 2 (numbered Validate c.in-Ok.ensures c.in-Validate.is)) c.validate.ensures

pub returns-in-Decide : goal.returns-in-Decide
returns-in-Decide c =
    stepped_as (step_at_lem _ _ _ 3 (numbered Decide c.in-Ok.ensures c.in-Decide.is))
    (c.decide.ensures.beside _ (records_accepted_lem _ _ _ _ c.requires))

pub returns-in-Withdraw : goal.returns-in-Withdraw
returns-in-Withdraw c =
    stepped_as (step_at_lem _ _ _ 4 (numbered Withdraw c.in-Ok.ensures c.in-Withdraw.is))
    (c.withdraw.ensures.beside _ (records_accepted_lem _ _ _ _ c.requires))

pub returns-in-Finish : goal.returns-in-Finish
returns-in-Finish c = stepped_as (step_at_lem _ _ _ 5 (numbered Finish c.in-Ok.ensures c.in-Finish.is)) c.finish.ensures

pub returns-in-Undo : goal.returns-in-Undo
returns-in-Undo c = stepped_as (step_at_lem _ _ _ 6 (numbered Undo c.in-Ok.ensures c.in-Undo.is)) c.undo.ensures

pub returns-in-Done : goal.returns-in-Done
returns-in-Done c =
    stepped_as (step_at_lem _ _ _ 7 (numbered Done c.in-Ok.ensures c.in-Done.is))
    (wrote_nothing _ _ (records_accepted_lem _ _ _ _ c.requires)
    (coordinator_readable_lem _ _ _ _ c.requires) _ _ c.done.ensures)

pub returns-in_default : goal.returns-in_default
returns-in_default c =
    stepped_as (step-none _ _ _ (missed_from 7 _ (omega (arith, c.in_default.ensures.1))))
    (wrote_nothing _ _ (records_accepted_lem _ _ _ _ c.requires) (coordinator_readable_lem _ _ _ _ c.requires) _ _ refl)
