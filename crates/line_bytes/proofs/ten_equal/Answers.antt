-- The law on two parts, of eight and of two bytes.
use Rattle.std.specs.Prelude.{◌<◌}
use Rattle.lists.specs.Basics.{ℕ, get_or, arith}
use Rattle.line_bytes.specs.Loads.{split_equal}
use Rattle.line_bytes.proofs.ten_equal.Goals as goal

pub returns : goal.returns
returns c =
    let a = c.args in
    let s = a.s.now in
    let t = a.t.now in
    let of-s : (i : ℕ) → get_or s i 0 < 256 = λ i. (c.type_inv.s i).fits in
    let of-t : (i : ℕ) → get_or t i 0 < 256 = λ i. (c.type_inv.t i).fits in
    rw (c.load-4.ensures.value, c.load-3.ensures.value, c.load-2.ensures.value, c.load.ensures.value)
    (split_equal s t of-s of-t 8 2 a.a a.b (omega arith) (omega arith))
