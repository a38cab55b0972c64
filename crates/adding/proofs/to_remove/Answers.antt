-- Case by case in the order of the refusals; the record at the key's rank is the key's line.
use Rattle.std.proofs.Common.{◌∙◌}
use Rattle.lists.specs.Basics.{sym, ap, not-true, not-false}
use Rattle.model.specs.Types.{Rank}
use Rattle.model.specs.Conditions.{is_blank}
use Rattle.sheet_laws.specs.Ranks.{accepted_order}
use Rattle.adding.specs.Placing.{remove_out, remove_missing, remove_kept, remove_told, at_rank}
use Rattle.adding.proofs.to_remove.Goals as goal

pub returns-then-not-key_in_range : goal.returns-then-not-key_in_range
returns-then-not-key_in_range c =
    let a = c.args in
    remove_out a.key _ (sym c.key_in_range.ensures ∙ c.if-not-key_in_range.true)

pub rank-rank-requires : goal.rank-rank-requires
rank-rank-requires c =
    record { records_value = c.requires; key_value = (sym c.key_in_range.ensures ∙ c.if-not-key_in_range.false) }

pub returns-then-not-rank : goal.returns-then-not-rank
returns-then-not-rank c =
    let a = c.args in
    remove_missing a.key _ (sym c.key_in_range.ensures ∙ c.if-not-key_in_range.false) (ap (λ (x : Rank). x.present) (sym c.rank-rank.ensures) ∙ not-true _ c.if-not-rank.true)

pub returns-then-not-is_blank : goal.returns-then-not-is_blank
returns-then-not-is_blank c =
    let a = c.args in
    remove_kept a.key _ (sym c.key_in_range.ensures ∙ c.if-not-key_in_range.false) (ap (λ (x : Rank). x.present) (sym c.rank-rank.ensures) ∙ not-false _ c.if-not-rank.false) (sym (c.is_blank.ensures ∙ ap is_blank (c.record_at-record.ensures ∙ at_rank a.key _ _ (accepted_order a.lines.now c.requires) (ap (λ (x : Rank). x.present) (sym c.rank-rank.ensures) ∙ not-false _ c.if-not-rank.false) (ap (λ (x : Rank). x.below) c.rank-rank.ensures))) ∙ c.if-not-is_blank.true)

pub returns : goal.returns
returns c =
    let a = c.args in
    remove_told a.key _ (sym c.key_in_range.ensures ∙ c.if-not-key_in_range.false) (ap (λ (x : Rank). x.present) (sym c.rank-rank.ensures) ∙ not-false _ c.if-not-rank.false) _ (sym (c.is_blank.ensures ∙ ap is_blank (c.record_at-record.ensures ∙ at_rank a.key _ _ (accepted_order a.lines.now c.requires) (ap (λ (x : Rank). x.present) (sym c.rank-rank.ensures) ∙ not-false _ c.if-not-rank.false) (ap (λ (x : Rank). x.below) c.rank-rank.ensures))) ∙ c.if-not-is_blank.false) c.rank-rank.ensures
