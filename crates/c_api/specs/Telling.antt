-- The version of what is exported.
use Rattle.std.specs.Prelude.{◌+◌, ◌*◌}
use Rattle.lists.specs.Basics.{ℕ}

abbrev pub major : ℕ
major = 3

abbrev pub minor : ℕ
minor = 0

abbrev pub patch : ℕ
patch = 0

abbrev pub version : ℕ
version = 10000 * major + 100 * minor + patch
