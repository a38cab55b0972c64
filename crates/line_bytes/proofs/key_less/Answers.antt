-- The law on two parts, by the test that the first parts are equal.
use Rattle.std.specs.Prelude.{◌<◌}
use Rattle.std.proofs.Common.{◌∙◌}
use Rattle.lists.specs.Basics.{sym, ℕ, get_or, arith}
use Rattle.line_bytes.specs.Order.{first-decides, rest-decides}
use Rattle.line_bytes.proofs.key_less.Goals as goal

pub returns-then-a0-b0 : goal.returns-then-a0-b0
returns-then-a0-b0 c =
    let a = c.args in
    let of-s : (i : ℕ) → get_or a.s.now i 0 < 256 = λ i. (c.type_inv.s i).fits in
    let w = c.number-b0.ensures.value in
    let v = c.number-a0.ensures.value in
    rw (v, w) (first-decides a.s.now a.s.now of-s of-s 8 12 a.a a.b (omega arith) (omega arith) (rw (v, w) at c.if-a0-b0.true))

pub returns : goal.returns
returns c =
    let a = c.args in
    let of-s : (i : ℕ) → get_or a.s.now i 0 < 256 = λ i. (c.type_inv.s i).fits in
    let same = sym c.number-a0.ensures.value ∙ (c.if-a0-b0.false ∙ c.number-b0.ensures.value) in
    c.twelve_less.ensures ∙ rest-decides a.s.now a.s.now of-s of-s 8 12 a.a a.b (omega arith) (omega arith) same
