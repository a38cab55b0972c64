-- The last line has no next key; of any other, the next line's key stands a line's bytes on.
use Rattle.std.specs.Prelude.{◌≡◌, ◌+◌, ◌-◌, ◌*◌}
use Rattle.lists.specs.Basics.{suc, drop-drop, arith}
use Rattle.record_check.specs.Sheet.{key_before}
use Rattle.model.specs.Layouts.{record_bytes}
use Rattle.record_check.proofs.key_rises.Goals as goal

pub returns-then-i-n : goal.returns-then-i-n
unfolding key_before
returns-then-i-n c =
    let a = c.args in
    let e : a.n - (a.i + 1) ≡ 0 = omega arith in
    rw e

pub returns : goal.returns
unfolding key_before
returns c =
    let a = c.args in
    let e : a.n - (a.i + 1) ≡ suc (a.n - (a.i + 2)) = omega arith in
    rw (e, drop-drop record_bytes (a.i * record_bytes) a.s.now) c.key_less.ensures
