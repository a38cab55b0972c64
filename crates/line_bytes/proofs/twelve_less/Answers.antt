-- The law on two parts, by the test that the first parts are equal.
use Rattle.std.specs.Prelude.{◌+◌, ◌<◌}
use Rattle.std.proofs.Common.{◌∙◌}
use Rattle.lists.specs.Basics.{sym, ℕ, get_or, arith}
use Rattle.line_bytes.specs.Order.{part-less, first-decides, rest-decides}
use Rattle.line_bytes.proofs.twelve_less.Goals as goal

pub returns-then-s0-t0 : goal.returns-then-s0-t0
returns-then-s0-t0 c =
    let a = c.args in
    let of-s : (i : ℕ) → get_or a.s.now i 0 < 256 = λ i. (c.type_inv.s i).fits in
    let of-t : (i : ℕ) → get_or a.t.now i 0 < 256 = λ i. (c.type_inv.t i).fits in
    let w = c.number-t0.ensures.value in
    let v = c.number-s0.ensures.value in
    rw (v, w) (first-decides a.s.now a.t.now of-s of-t 8 4 a.a a.b (omega arith) (omega arith) (rw (v, w) at c.if-s0-t0.true))

pub returns : goal.returns
returns c =
    let a = c.args in
    let of-s : (i : ℕ) → get_or a.s.now i 0 < 256 = λ i. (c.type_inv.s i).fits in
    let of-t : (i : ℕ) → get_or a.t.now i 0 < 256 = λ i. (c.type_inv.t i).fits in
    let same = sym c.number-s0.ensures.value ∙ (c.if-s0-t0.false ∙ c.number-t0.ensures.value) in
    rw (c.number-2.ensures.value, c.number.ensures.value)
    (sym (part-less a.s.now a.t.now of-s of-t 4 (a.a + 8) (a.b + 8) (omega arith) (omega arith))
    ∙ rest-decides a.s.now a.t.now of-s of-t 8 4 a.a a.b (omega arith) (omega arith) same)
