-- Case by case in the order of the refusals.
use Rattle.std.proofs.Common.{◌∙◌}
use Rattle.lists.specs.Basics.{sym, ap}
use Rattle.model.specs.Types.{Rank}
use Rattle.adding.specs.Placing.{add_out, add_present, add_full, add_told}
use Rattle.adding.proofs.to_add.Goals as goal

pub returns-then-not-key_in_range : goal.returns-then-not-key_in_range
returns-then-not-key_in_range c =
    let a = c.args in
    add_out a.key _ a.full (sym c.key_in_range.ensures ∙ c.if-not-key_in_range.true)

pub rank-rank-requires : goal.rank-rank-requires
rank-rank-requires c =
    record { records_value = c.requires; key_value = (sym c.key_in_range.ensures ∙ c.if-not-key_in_range.false) }

pub returns-then-rank : goal.returns-then-rank
returns-then-rank c =
    let a = c.args in
    add_present a.key _ (sym c.key_in_range.ensures ∙ c.if-not-key_in_range.false) a.full (ap (λ (x : Rank). x.present) (sym c.rank-rank.ensures) ∙ c.if-rank.true)

pub returns-then-full : goal.returns-then-full
returns-then-full c =
    let a = c.args in
    add_full a.key _ (sym c.key_in_range.ensures ∙ c.if-not-key_in_range.false) (ap (λ (x : Rank). x.present) (sym c.rank-rank.ensures) ∙ c.if-rank.false) a.full c.if-full.true

pub returns : goal.returns
returns c =
    let a = c.args in
    add_told a.key _ (sym c.key_in_range.ensures ∙ c.if-not-key_in_range.false) (ap (λ (x : Rank). x.present) (sym c.rank-rank.ensures) ∙ c.if-rank.false) a.full _ c.if-full.false c.rank-rank.ensures
