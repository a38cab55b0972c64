-- What holds of a choice holds of each of its cases: one rule for each combinator of the specification, with the case's equation at hand.
use Rattle.std.specs.Prelude.{◌≡◌, ◌≤◌, ◌∷◌}
use Rattle.lists.specs.Basics.{refl, ℕ, eqb, leb, Bool, true, false, cond, List, [], arith, eqb-true, eqb-false, leb-true, all, and_fst, and_snd}
use Rattle.lists.specs.Basics.{choose_by}
use Rattle.model.specs.Types.{Key, Image, Record, Entry, Transaction, Decision, Undecided, Committed, Aborted, Recovery, Stays, Forward, Back, Again, Busy}
use Rattle.types.specs.declared.Reading.TheVariants as readings
use Rattle.model.specs.Records.{line_of}
use Rattle.model.specs.Refusals.{Condition, refuse, refusal_of}
use Rattle.model.specs.Transactions.{by_phase, reading, entry_as}
use Rattle.model.specs.Images.{is_absent, is_prepared, by_decision, recovery}
use Rattle.model.specs.Writes.{Sheets, Write, nothing}
use Rattle.model.specs.Visits.{meeting, is_again, recovered, recovery_write}
use Rattle.model.specs.Results.{Call, begin, read, second, put, advance, abort, visit, add, remove, Answer, answered, Response, Result, refused, made, unless, write_of}
use Rattle.model.specs.Conditions.{is_new, held_entry, conditions}
use Rattle.model.specs.Calls.{read_held, read_new, holding, whole_read, outcome, result_of}
use Rattle.model.specs.Histories.{written}

pub by_phase_lem {ℓ κ} : {A : Type ℓ} (P : A → Type κ) (p : ℕ) {o r v d w f u e x : A} → P o → P r → P v → P d → P w → P f → P u → P e → P x → P (by_phase p o r v d w f u e x)
by_phase_lem P p o r v d w f u e x =
    choose_by P (eqb p 0) (λ _. o)
    (λ _. choose_by P (eqb p 1) (λ _. r)
    (λ _. choose_by P (eqb p 2) (λ _. v)
    (λ _. choose_by P (eqb p 3) (λ _. d)
    (λ _. choose_by P (eqb p 4) (λ _. w)
    (λ _. choose_by P (eqb p 5) (λ _. f) (λ _. choose_by P (eqb p 6) (λ _. u) (λ _. choose_by P (eqb p 7) (λ _. e) (λ _. x))))))))

-- the same with the phase at hand; a number that is no phase is refused where the rule is used
pub by_phase_of {ℓ κ} : {A : Type ℓ} (P : A → Type κ) (p : ℕ) {o r v d w f u e x : A} → (p ≡ 0 → P o) → (p ≡ 1 → P r) → (p ≡ 2 → P v) → (p ≡ 3 → P d) → (p ≡ 4 → P w) → (p ≡ 5 → P f) → (p ≡ 6 → P u) → (p ≡ 7 → P e) → P x → P (by_phase p o r v d w f u e x)
by_phase_of P p o r v d w f u e x =
    choose_by P (eqb p 0) (λ q. o (eqb-true p 0 q))
    (λ _. choose_by P (eqb p 1) (λ q. r (eqb-true p 1 q))
    (λ _. choose_by P (eqb p 2) (λ q. v (eqb-true p 2 q))
    (λ _. choose_by P (eqb p 3) (λ q. d (eqb-true p 3 q))
    (λ _. choose_by P (eqb p 4) (λ q. w (eqb-true p 4 q))
    (λ _. choose_by P (eqb p 5) (λ q. f (eqb-true p 5 q))
    (λ _. choose_by P (eqb p 6) (λ q. u (eqb-true p 6 q)) (λ _. choose_by P (eqb p 7) (λ q. e (eqb-true p 7 q)) (λ _. x))))))))

pub by_decision_of {ℓ κ} : {A : Type ℓ} (P : A → Type κ) (d : Decision) {u c a : A} → (d ≡ Undecided → P u) → (d ≡ Committed → P c) → (d ≡ Aborted → P a) → P (by_decision d u c a)
by_decision_of P Undecided x y z = x refl
by_decision_of P Committed x y z = y refl
by_decision_of P Aborted x y z = z refl

-- what a visit comes to
pub by_meeting {κ} : (P : Recovery → Type κ) (r : Record) (d : Decision) (x : Bool) → (is_prepared r ≡ false → P Stays) → (is_prepared r ≡ true → d ≡ Committed → P Forward) → (is_prepared r ≡ true → d ≡ Aborted → P Back) → (is_prepared r ≡ true → d ≡ Undecided → x ≡ true → P Again) → (is_prepared r ≡ true → d ≡ Undecided → x ≡ false → P Busy) → P (recovery r d x)
unfolding recovery
by_meeting P r d x s f b a u =
    choose_by P (is_prepared r)
    (λ p. by_decision_of P d (λ e. choose_by P x (λ y. a p e y) (λ y. u p e y)) (λ e. f p e) (λ e. b p e))
    s

pub by_decision_lem {ℓ κ} : {A : Type ℓ} (P : A → Type κ) (d : Decision) {u c a : A} → P u → P c → P a → P (by_decision d u c a)
by_decision_lem P Undecided x y z = x
by_decision_lem P Committed x y z = y
by_decision_lem P Aborted x y z = z

-- a result, refused or not: a refused one has a condition that holds, an accepted one has none
pub unless_of {κ} : {A E : Type 0} (P : Response A E → Type κ) (cs : List Condition) {r : Response A E} → ((refusal_of cs ≡ 0 → ⊥) → P (refused (refusal_of cs))) → (refusal_of cs ≡ 0 → P r) → P (unless cs r)
unless_of P cs n h = choose_by P (eqb (refusal_of cs) 0) (λ e. h (eqb-true (refusal_of cs) 0 e)) (λ e. n (eqb-false (refusal_of cs) 0 e))

pub unless_by {κ} : {A E : Type 0} (P : Response A E → Type κ) (cs : List Condition) {r : Response A E} → P (refused (refusal_of cs)) → (refusal_of cs ≡ 0 → P r) → P (unless cs r)
unless_by P cs n h = unless_of P cs (λ z. n) h

-- what an accepted call knows: none of its conditions holds
pub not_first : (n : ℕ) (x : Bool) (cs : List Condition) → 1 ≤ n → refusal_of (refuse n x ∷ cs) ≡ 0 → (x ≡ false) × (refusal_of cs ≡ 0)
unfolding refusal_of
not_first n true cs l h = absurd (omega (arith, h))
not_first n false cs l h = (refl, h)

-- the same by the condition's number, wherever it stands in the list

abbrev pub has_number : Condition → Bool
has_number c = leb 1 c.number

unfoldable pub test_of : ℕ → List Condition → Bool
test_of n [] = false
test_of n (c ∷ cs) = cond (eqb c.number n) c.holds (test_of n cs)

pub not-held : (n : ℕ) (cs : List Condition) → all has_number cs ≡ true → refusal_of cs ≡ 0 → test_of n cs ≡ false
unfolding test_of all
not-held n [] l h = refl
not-held n (c ∷ cs) l h =
    let p = not_first c.number c.holds cs (leb-true 1 c.number (and_fst (has_number c) (all has_number cs) l)) h in
    choose_by (λ (x : Bool). x ≡ false) (eqb c.number n) (λ e. p.0)
    (λ e. not-held n cs (and_snd (has_number c) (all has_number cs) l) p.1)

conditions-numbered : (c : Call) (s : Sheets) → all has_number (conditions c s) ≡ true
unfolding all conditions
conditions-numbered (begin b) s = refl
conditions-numbered (read t k now) s = refl
conditions-numbered (second t k now c) s = refl
conditions-numbered (put t k c) s = refl
conditions-numbered (advance t now) s = refl
conditions-numbered (abort t) s = refl
conditions-numbered (visit k now) s = refl
conditions-numbered (add k) s = refl
conditions-numbered (remove k) s = refl

-- of a call that is accepted
pub accepted : (n : ℕ) (c : Call) (s : Sheets) → refusal_of (conditions c s) ≡ 0 → test_of n (conditions c s) ≡ false
accepted n c s z = not-held n (conditions c s) (conditions-numbered c s) z

-- what a call writes: nothing where it is refused
pub by_written {κ} : (P : Write → Type κ) (c : Call) (s : Sheets) → P nothing → (refusal_of (conditions c s) ≡ 0 → P (write_of (outcome c s))) → P (written c s)
unfolding written result_of
by_written P c s n h = unless_by (λ (x : Result Answer). P (write_of x)) (conditions c s) n h

-- what a visit writes
pub by_visit {κ} : (P : Write → Type κ) (k : Key) (now : ℕ) (s : Sheets) → P nothing → P (recovery_write (meeting now s (line_of k s.lines)) (line_of k s.lines)) → P (written (visit k now) s)
unfolding outcome
by_visit P k now s n h = by_written P (visit k now) s n (λ z. h)

-- what a whole read comes to, by what it sees of the line
module _ (sees : Record → Image) (t : Transaction) (k : Key) (now : ℕ) (s : Sheets) where
  abbrev line : Record
  line = line_of k s.lines

  -- what the visit comes to
  abbrev met : Recovery
  met = meeting now s line

  -- the entry of a new key
  abbrev pub entry_read : Entry
  entry_read = entry_as line.key (is_absent (recovered met line)) (sees (recovered met line))

  pub by_whole {κ} : (P : Result Answer → Type κ)
      → (is_new k t ≡ true → is_again met ≡ true → P (made (answered readings.Again t) (recovery_write met line)))
      → (is_new k t ≡ true → is_again met ≡ false → P (made (answered (reading entry_read) (holding entry_read t)) (recovery_write met line)))
      → (is_new k t ≡ false → P (read_held t (held_entry k t)))
      → P (whole_read sees t k now s)
  unfolding whole_read read_new
  by_whole P again new held = choose_by P (is_new k t) (λ n. choose_by P (is_again met) (again n) (new n)) held
