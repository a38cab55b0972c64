-- The definition's two tests, each by its function.
use Rattle.std.specs.Prelude.{◌&&◌}
use Rattle.lists.specs.Basics.{ap₂}
use Rattle.closing.proofs.writes.puts_group.Goals as goal

pub returns : goal.returns
returns c = ap₂ ◌&&◌ c.group_holds.ensures c.has_entry.ensures
