-- Ten bytes of ten are all.
use Rattle.std.specs.Prelude.{◌≡◌, ◌-◌}
use Rattle.std.proofs.Common.{◌∙◌, rules}
use Rattle.lists.specs.Basics.{sym, ap, ap₂, ℕ, drop, length, take_all, arith, eq_list}
use Rattle.model.specs.Layouts.{word_bytes}
use Rattle.codec.proofs.fields.holds.Goals as goal

pub returns-then-s-eq-WORD_BYTES : goal.returns-then-s-eq-WORD_BYTES
returns-then-s-eq-WORD_BYTES c =
    let a = c.args in
    let z : 0 ≡ word_bytes - a.w = omega (arith, c.if-w-eq-WORD_BYTES.true) in
    c.ten_equal.ensures
    ∙ (ap₂ eq_list (take_all word_bytes a.s.now (omega (arith, c.if-s-eq-WORD_BYTES.true))) (take_all word_bytes a.word.now (search rules))
    ∙ ap (λ (n : ℕ). eq_list a.s.now (drop n a.word.now)) z)
