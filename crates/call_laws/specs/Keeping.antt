-- What a call must keep, and what a write leaves: units, keys, more numbers issued, and with them a transaction's rules.
use Rattle.std.specs.Prelude.{◌≡◌, ◌≤◌, ◌<◌, ◌∷◌}
use Rattle.std.proofs.Common.{◌∙◌}
use Rattle.lists.specs.Basics.{refl, sym, ap, subst, ℕ, eqb, leb, true, false, not, List, some, none-ne-some}
use Rattle.lists.specs.Basics.{some-injective, arith, eqb-true, eqb-false, leb-true, leb-false, le-leb, not-false, tests}
use Rattle.lists.specs.All.{all_weaken}
use Rattle.model.specs.Types.{Key, Entry, Transaction}
use Rattle.model.specs.Records.{same_key, has_line, line_of}
use Rattle.model.specs.Coordinator.{Letter, Coordinator, with_issued}
use Rattle.model.specs.Refusals.{Condition, refuse, refusal_of}
use Rattle.model.specs.Transactions.{held, held_at, with_entry}
use Rattle.model.specs.Writes.{Sheets, Write, nothing, issue, decide, commit, prepare, forward, back, add_line, remove_line, decisions_after, apply}
use Rattle.model.specs.WellFormed.{entry_formed, place_formed, verdict_formed, well_formed}
use Rattle.model.specs.Results.{Result, refused, made, write_of, Answer, returns, answer_of}
use Rattle.model.specs.Conditions.{is_new}
use Rattle.model.specs.Steps.{units_of}
use Rattle.sheet_laws.specs.Search.{some_found}
use Rattle.call_laws.specs.Choices.{not_first}
use Rattle.call_laws.specs.Keys.{has_key}
use Rattle.call_laws.specs.Ranges.{GoodParts}
use Rattle.sheet_laws.specs.KeyOrder.{has_line_lem}
use Rattle.call_laws.specs.Sheets.{GoodSheets, listed_good, Fit, fit_nothing, decided-issued, decided-units}
use Rattle.call_laws.specs.Transactions.{Body, Stage, well_formed-parts, parts-well_formed, place_at_lem, verdict_at_lem, stage_open}

-- What a write leaves of a transaction's rules.

pub issued_grows : (w : Write) (c : Coordinator) → c.issued ≤ (decisions_after w c).issued
unfolding decisions_after with_issued
issued_grows nothing c = omega arith
issued_grows issue c = omega arith
issued_grows (decide n d) c = omega (arith, decided-issued n d c)
issued_grows (commit n es) c = omega arith
issued_grows (prepare n now es) c = omega arith
issued_grows (forward n ks) c = omega arith
issued_grows (back n ks) c = omega arith
issued_grows (add_line k) c = omega arith
issued_grows (remove_line k) c = omega arith

-- units are fixed
pub units_kept : (w : Write) (c : Coordinator) → (decisions_after w c).units ≡ c.units
unfolding decisions_after with_issued
units_kept nothing c = refl
units_kept issue c = refl
units_kept (decide n d) c = decided-units n d c
units_kept (commit n es) c = refl
units_kept (prepare n now es) c = refl
units_kept (forward n ks) c = refl
units_kept (back n ks) c = refl
units_kept (add_line k) c = refl
units_kept (remove_line k) c = refl

entry_later : (i j : ℕ) → i ≤ j → (e : Entry) → entry_formed i e ≡ true → entry_formed j e ≡ true
unfolding entry_formed
entry_later i j l e h =
    let a : leb e.seen.txid i ≡ true = search tests in
    let b : e.seen.txid ≤ i = leb-true e.seen.txid i a in
    let c : leb e.seen.txid j ≡ true = le-leb e.seen.txid j (omega arith) in
    rw c (rw a at h)

body-after : (s : Sheets) (w : Write) (t : Transaction) → Body s t → Body (apply w s) t
unfolding apply
body-after s w t b =
    let g : s.coordinator.issued ≤ (decisions_after w s.coordinator).issued = issued_grows w s.coordinator in
    let k : t.number ≤ s.coordinator.issued = b.known in
    record {
      number = b.number;
      known = omega arith;
      flag = b.flag;
      few = b.few;
      entries =
          all_weaken (entry_formed s.coordinator.issued) (entry_formed (decisions_after w s.coordinator).issued)
          (entry_later s.coordinator.issued (decisions_after w s.coordinator).issued g) (held t) b.entries;
      distinct = b.distinct;
    }

pub formed-after : (s : Sheets) (w : Write) (t : Transaction) → Body s t → Stage (units_of s) t → well_formed (apply w s) t ≡ true
unfolding apply
formed-after s w t b g =
    parts-well_formed (apply w s) t (body-after s w t b)
    (subst (λ (us : List Letter). Stage us t) (sym (units_kept w s.coordinator)) g)

-- What is asked of a call's result.
pub record Keeps (s : Sheets) (r : Result Answer) : Type 0 where
  pub fits : Fit s (write_of r)
  pub formed : (t : Transaction) → returns (answer_of r) ≡ some t → well_formed (apply (write_of r) s) t ≡ true

pub keeps_refused : (s : Sheets) (n : ℕ) → Keeps s (refused n)
unfolding returns
keeps_refused s n = record { fits = fit_nothing; formed = λ t e. absurd (none-ne-some t e) }

pub keeps_made : (s : Sheets) (a : Answer) (w : Write) (t : Transaction) → returns a ≡ some t → Fit s w → well_formed (apply w s) t ≡ true → Keeps s (made a w)
keeps_made s a w t e g h =
    record { fits = g; formed = λ u q. ap (well_formed (apply w s)) (some-injective u t (sym q ∙ e)) ∙ h }

pub strictly : (m n : ℕ) → m ≤ n → eqb m n ≡ false → m < n
strictly m n l h = omega (arith, eqb-false m n h)

-- an accepted call that takes a transaction takes a well-formed one
pub taken-parts : (s : Sheets) (t : Transaction) (cs : List Condition) → refusal_of (refuse 3 (not (well_formed s t)) ∷ cs) ≡ 0 → Body s t × Stage (units_of s) t
taken-parts s t cs z = well_formed-parts s t (not-false (well_formed s t) (not_first 3 (not (well_formed s t)) cs (omega arith) z).0)

-- the line of a key is a good one
pub line_good_lem : (s : Sheets) → GoodSheets s → (k : Key) → has_line k s.lines ≡ true → GoodParts s.coordinator.issued (line_of k s.lines)
line_good_lem s good k h =
    listed_good s good k (sym (has_line_lem k s.lines) ∙ h)

pub less_than_eight : (n : ℕ) → leb 8 n ≡ false → n < 8
less_than_eight n h = leb-false 8 n h

-- a new key is held by no entry
pub not-held : (k : Key) (t : Transaction) → is_new k t ≡ true → has_key k (held t) ≡ false
unfolding held_at
not-held k t n = sym (some_found (λ (e : Entry). same_key e.key k) 0 (held t)) ∙ ap not n

-- an open transaction stays open with another entry
pub open_again : (us : List Letter) (t : Transaction) → Stage us t → t.phase ≡ 0 → (n i : ℕ) (e : Entry) → Stage us (with_entry n i e t)
unfolding place_formed verdict_formed
open_again us t g ph n i e =
    stage_open us (with_entry n i e t) ph (eqb-true t.place 0 (place_at_lem us t g 0 ph)) (eqb-true t.verdict 0 (verdict_at_lem us t g 0 ph))
