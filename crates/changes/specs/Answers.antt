-- What the call answers, and what stands in its target: refused by a length, or told.
use Rattle.std.specs.Prelude.{◌≡◌, ◌+◌, ◌-◌, ◌≤◌, ◌∷◌}
use Rattle.std.proofs.Common.{◌∙◌}
use Rattle.lists.specs.Basics.{refl, sym, ap, ℕ, eqb, Bool, true, false, cond, List, [], length}
use Rattle.lists.specs.Basics.{set, arith, eq-eqb, ne_eqb, eq_list}
use Rattle.model.specs.Refusals.{refusal_of}
use Rattle.model.specs.Changes.{first_of, last_reach, first_differing, written_conditions, written_number, written_lines}
use Rattle.changes.specs.Lengths.{fits}

-- a target of two numbers, both stored
pub stored : (t : List ℕ) (x y : ℕ) → length t ≡ 2 → set (set t 0 x) 1 y ≡ x ∷ y ∷ []
stored [] x y n = absurd (omega arith)
stored (a ∷ []) x y n = absurd (omega arith)
stored (a ∷ b ∷ []) x y n = refl
stored (a ∷ b ∷ c ∷ t) x y n = absurd (omega arith)

module _ (rs₀ rs cs₀ cs target : List ℕ) where
  -- the answer r with the target left as u
  abbrev pub Written : ℕ → List ℕ → Type 0
  Written r u = (r ≡ written_number rs₀ rs cs₀ cs target) × (u ≡ written_lines rs₀ rs cs₀ cs target)

  abbrev refusals : ℕ
  refusals = refusal_of (written_conditions rs₀ rs cs₀ cs target)

  pub written_refused : (n : ℕ) → n ≡ refusals → 1 ≤ n → Written (1000 + n) target
  unfolding written_number written_lines
  written_refused n q z =
      let e : eqb refusals 0 ≡ false = ne_eqb refusals 0 (omega arith) in
      rw e (ap (λ (m : ℕ). 1000 + m) q, refl)

  pub written-told : (n reach first : ℕ) (stays : Bool) (r : ℕ) → n ≡ refusals → n ≡ 0 → reach ≡ last_reach rs₀ rs → first ≡ first_of rs₀ rs 0 reach
      → stays ≡ eq_list cs₀ cs → r ≡ cond stays 0 1 + cond (eqb reach 0) 0 2 → Written r (set (set target 0 first) 1 (reach - first))
  unfolding written_number written_lines
  written-told n reach first stays r q z e f s k =
      let o : refusals ≡ 0 = sym q ∙ z in
      let x : eqb refusals 0 ≡ true = eq-eqb refusals 0 o in
      let g : first ≡ first_differing rs₀ rs = f ∙ ap (first_of rs₀ rs 0) e in
      let w = stored target first (reach - first) (fits _ _ _ _ _ o).pair in
      rw x (k ∙ rw (s, e), w ∙ rw (g, e))
