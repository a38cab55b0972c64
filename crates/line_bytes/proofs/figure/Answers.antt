-- The loop's invariant: the digits so far are taken in, as a number below 16 to their count, and that number with the digits that are left is the figure.
use Rattle.std.specs.Prelude.{◌≡◌, ◌+◌, ◌-◌, ◌<◌, ◌≤◌, ◌%◌}
use Rattle.std.proofs.Common.{◌∙◌}
use Rattle.lists.specs.Basics.{refl, sym, ap, ℕ, List, arith, length, take, drop, get_or, get_or-take, get_or-drop, length-take, length-drop}
use Rattle.decimal.specs.Digits.{digits_from, digits_next, digits_room, digits_fit}
use Rattle.line_bytes.proofs.figure.Goals as goal

-- the bytes that the loop goes over
lent : (s : List ℕ) (at n : ℕ) → at + n ≤ length s → length (take (at + n - at) (drop at s)) ≡ n
lent s at n h = simp (length-take, length-drop) (omega arith)

byte_at : (s : List ℕ) (at n i : ℕ) → i < n → get_or (take (at + n - at) (drop at s)) i 0 ≡ get_or s (at + i) 0
byte_at s at n i l = let j : i < at + n - at = omega arith in get_or-take (at + n - at) (drop at s) i 0 j ∙ get_or-drop at s i 0

pub loop-b-init : goal.loop-b-init
loop-b-init c =
    let a = c.args in
    let e : a.n - 0 ≡ a.n = omega arith in
    let f : a.at + 0 ≡ a.at = omega arith in
    (omega arith, omega arith, rw (e, f))

pub overflow_mul-v : goal.overflow_mul-v
overflow_mul-v c =
    let a = c.args in
    let l = c.loop-b in
    omega (arith, digits_fit l.v l.b-index 14 l.invariant.1 (omega (arith, c.loop-b-test.true, lent a.s.now a.at a.n c.requires.n_in_bounds)))

pub overflow_add-v : goal.overflow_add-v
overflow_add-v c =
    let a = c.args in
    let l = c.loop-b in
    omega (arith, c.from.ensures, digits_fit l.v l.b-index 14 l.invariant.1 (omega (arith, c.loop-b-test.true, lent a.s.now a.at a.n c.requires.n_in_bounds)))

pub loop-b-preserved : goal.loop-b-preserved
loop-b-preserved c =
    let a = c.args in
    let l = c.loop-b in
    let within : l.b-index < a.n = omega (arith, c.loop-b-test.true, lent a.s.now a.at a.n c.requires.n_in_bounds) in
    let b = get_or a.s.now (a.at + l.b-index) 0 in
    let e : c.from.result ≡ b % 16 = c.from.ensures ∙ ap (λ (x : ℕ). x % 16) (byte_at a.s.now a.at a.n l.b-index within) in
    rw e (
      omega arith,
      digits_room l.v l.b-index b l.invariant.1,
      sym (digits_next l.v a.at a.n l.b-index b a.s.now refl within c.requires.n_in_bounds) ∙ l.invariant.2,
    )

pub returns-clause-value : goal.returns-clause-value
unfolding digits_from
returns-clause-value c =
    let a = c.args in
    let l = c.loop-b in
    let e : a.n - l.b-index ≡ 0 = omega (arith, c.loop-b-test.false, lent a.s.now a.at a.n c.requires.n_in_bounds) in
    rw e at l.invariant.2

pub returns-clause-upper_bound : goal.returns-clause-upper_bound
returns-clause-upper_bound c =
    let l = c.loop-b in
    digits_fit l.v l.b-index 15 l.invariant.1 (omega (arith, l.invariant.0, c.requires.n_bound))
