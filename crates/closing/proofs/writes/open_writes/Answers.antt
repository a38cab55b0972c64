-- The definition's two tests, each by its function.
use Rattle.std.specs.Prelude.{◌&&◌}
use Rattle.lists.specs.Basics.{ap₂, arith}
use Rattle.group_writes.specs.Ready.{units, has_letters}
use Rattle.closing.proofs.writes.open_writes.Goals as goal

pub slice_bounds-one_phase_allowed-end : goal.slice_bounds-one_phase_allowed-end
slice_bounds-one_phase_allowed-end c = omega (arith, has_letters _ _ _ _ c.requires)

pub one_phase_allowed-requires : goal.one_phase_allowed-requires
one_phase_allowed-requires c = c.requires.body.few

pub puts_group-requires : goal.puts_group-requires
puts_group-requires c = c.requires

pub returns : goal.returns
returns c =
    ap₂ ◌&&◌ (c.one_phase_allowed.ensures _ c.requires.grouped.count (units _ _ _ _ c.requires)) c.puts_group.ensures
