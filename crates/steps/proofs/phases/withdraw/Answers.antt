-- By the decision of the transaction's number.
use Rattle.std.proofs.Common.{◌∙◌}
use Rattle.lists.specs.Basics.{refl, sym}
use Rattle.steps.specs.Stepped.{wrote_nothing, wrote-decision}
use Rattle.steps.specs.Cases.{stepped_as, withdraw_aborts, withdraw_stays, withdraw_moves}
use Rattle.model.specs.ByteCalls.{sheets_of}
use Rattle.steps.proofs.phases.withdraw.Goals as goal

pub withdrawn-requires : goal.withdrawn-requires
withdrawn-requires c = c.requires.few

pub withdrawn-requires-in-Aborted : goal.withdrawn-requires-in-Aborted
withdrawn-requires-in-Aborted c = c.requires.few

pub returns-in-Undecided : goal.returns-in-Undecided
returns-in-Undecided c = record {
  beside =
      λ rs a. stepped_as
      (withdraw_aborts _ (sheets_of rs c.args.coordinator.now)
      (sym c.decision_at.ensures ∙
      c.in-Undecided.is))
      (wrote-decision rs _ _ _ _ _ _ a c.requires c.withdrawn.ensures
      c.set_decision.ensures);
}

pub returns-in-Committed : goal.returns-in-Committed
returns-in-Committed c = record {
  beside =
      λ rs a. stepped_as
      (withdraw_stays _ (sheets_of rs c.args.coordinator.now)
      (sym c.decision_at.ensures ∙ c.in-Committed.is))
      (wrote_nothing rs _ a c.requires.accepted _ _ refl);
}

pub returns-in-Aborted : goal.returns-in-Aborted
returns-in-Aborted c = record {
  beside =
      λ rs a. stepped_as
      (withdraw_moves _ (sheets_of rs c.args.coordinator.now)
      (sym c.decision_at.ensures ∙ c.in-Aborted.is))
      (wrote_nothing rs _ a c.requires.accepted _ _ c.withdrawn-in-Aborted.ensures);
}
