-- The part of a sheet that a line of a history asks for: `line` asks for what the look-up hands back.
use Rattle.std.specs.Prelude.{◌+◌}
use Rattle.lists.specs.Basics.{ℕ, Bool, true, false, cond, List, [], get_or}
use Rattle.model.specs.Types.{Key, Columns}
use Rattle.script.specs.declared.scan.Command.{Command}
use Rattle.script.specs.declared.scan.Kind.{Kind}
use Rattle.script.specs.declared.scan.Kind.TheVariants.{Line}

-- the key whose five numbers begin at number i
abbrev pub key_from : List ℕ → ℕ → Key
key_from n at =
    record {
      storage = get_or n at 0;
      namespace = get_or n (at + 1) 0;
      table = get_or n (at + 2) 0;
      partition = get_or n (at + 3) 0;
      clustering = get_or n (at + 4) 0;
    }

-- the columns whose two numbers begin at number i
abbrev pub columns_from : List ℕ → ℕ → Columns
columns_from n at = record { column1 = get_or n at 0; column2 = get_or n (at + 1) 0 }

abbrev pub asks_line : Kind → Bool
asks_line Line = true
asks_line k = false

-- the part asked for, of what was looked up: an empty one where none is
abbrev pub part_asked : Command → List ℕ → List ℕ
part_asked c found = cond (asks_line c.kind) found []
