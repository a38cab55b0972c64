-- What the companion tells, in the target.
use Rattle.std.proofs.Common.{◌∙◌}
use Rattle.lists.specs.Basics.{ap}
use Rattle.by_place.specs.Ranks.{rank_number, rank_target}
use Rattle.c_api.proofs.two.rapyheo_two_rank.Goals as goal

pub returns : goal.returns
returns c =
    let a = c.args in
    record { answer = c.tell_rank.ensures.answer ∙ ap (rank_number a.rank.now) c.rank_of.ensures.told; target = c.tell_rank.ensures.target ∙ ap (rank_target a.rank.now) c.rank_of.ensures.told }
