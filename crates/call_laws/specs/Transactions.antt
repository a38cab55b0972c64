-- A well-formed transaction in parts: its body, which no step changes, and its stage (phase, place and verdict).
use Rattle.std.specs.Prelude.{◌≡◌, ◌+◌, ◌≤◌, ◌<◌, ◌&&◌, ◌||◌, ◌∷◌}
use Rattle.std.proofs.Common.{◌∙◌}
use Rattle.lists.specs.Basics.{refl, sym, ap, ℕ, eqb, leb, ltb, Bool, true, false, not, true≢false, List, []}
use Rattle.lists.specs.Basics.{length, arith, eq-eqb, le-leb, lt-ltb, not-true, all, any, and_fst, and_snd, and_both, tests, or_left}
use Rattle.model.specs.Types.{Entry, Transaction}
use Rattle.model.specs.Records.{key_in_range, same_key}
use Rattle.model.specs.Coordinator.{Letter}
use Rattle.model.specs.Transactions.{prepare_phase, validate_phase, decide_phase, withdraw_phase, finish_phase, undo_phase, done_phase, no_verdict, committed_verdict}
use Rattle.model.specs.Transactions.{aborted_verdict, is_empty, held, puts, to_validate, moved}
use Rattle.model.specs.Groups.{scopes, group_count, group_place}
use Rattle.model.specs.Writes.{Sheets}
use Rattle.model.specs.WellFormed.{entry_formed, distinct_keys, place_formed, verdict_formed, formed, well_formed}
use Rattle.sheet_laws.specs.KeyOrder.{same_key_refl}
use Rattle.call_laws.specs.Keys.{has_key}
use Rattle.call_laws.specs.Groups.{place_below}

-- what no step changes
pub record Body (s : Sheets) (t : Transaction) : Type 0 where
  pub number : 1 ≤ t.number
  pub known : t.number ≤ s.coordinator.issued
  pub flag : t.serializable ≤ 1
  pub few : t.count ≤ 8
  pub entries : all (entry_formed s.coordinator.issued) (held t) ≡ true
  pub distinct : distinct_keys (held t) ≡ true

-- phase, place and verdict
pub record Stage (us : List Letter) (t : Transaction) : Type 0 where
  pub decides : (not (eqb t.phase decide_phase) || not (is_empty (puts t))) ≡ true
  pub place : place_formed us t ≡ true
  pub verdict : verdict_formed t ≡ true

pub well_formed-parts : (s : Sheets) (t : Transaction) → well_formed s t ≡ true → Body s t × Stage s.coordinator.units t
unfolding well_formed formed
well_formed-parts s t h =
    let us = s.coordinator.units in
    let p0 = leb 1 t.number && leb t.number s.coordinator.issued && leb t.serializable 1 && leb t.count 8 in
    let p1 = p0 && all (entry_formed s.coordinator.issued) (held t) in
    let p2 = p1 && distinct_keys (held t) in
    let p3 = p2 && (not (eqb t.phase decide_phase) || not (is_empty (puts t))) in
    let p4 = p3 && place_formed us t in
    let h4 : p4 ≡ true = and_fst p4 (verdict_formed t) h in
    let h3 : p3 ≡ true = and_fst p3 (place_formed us t) h4 in
    let h2 : p2 ≡ true = and_fst p2 (not (eqb t.phase decide_phase) || not (is_empty (puts t))) h3 in
    let h1 : p1 ≡ true = and_fst p1 (distinct_keys (held t)) h2 in
    let h0 : p0 ≡ true = and_fst p0 (all (entry_formed s.coordinator.issued) (held t)) h1 in (
      record {
        number = search (tests, h0);
        known = search (tests, h0);
        flag = search (tests, h0);
        few = search (tests, h0);
        entries = and_snd p0 (all (entry_formed s.coordinator.issued) (held t)) h1;
        distinct = and_snd p1 (distinct_keys (held t)) h2;
      },
      record {
        decides = and_snd p2 (not (eqb t.phase decide_phase) || not (is_empty (puts t))) h3;
        place = and_snd p3 (place_formed us t) h4;
        verdict = and_snd p4 (verdict_formed t) h;
      },
    )

pub parts-well_formed : (s : Sheets) (t : Transaction) → Body s t → Stage s.coordinator.units t → well_formed s t ≡ true
unfolding well_formed formed
parts-well_formed s t b g =
    and_both
    (and_both
    (and_both
    (and_both
    (and_both
    (and_both
    (and_both
    (and_both (le-leb 1 t.number b.number) (le-leb t.number s.coordinator.issued b.known))
    (le-leb t.serializable 1 b.flag))
    (le-leb t.count 8 b.few))
    b.entries)
    b.distinct)
    g.decides)
    g.place)
    g.verdict

-- the key of a well-formed entry is in range
pub key_formed : (issued : ℕ) (e : Entry) → entry_formed issued e ≡ true → key_in_range e.key ≡ true
unfolding entry_formed
key_formed issued e h = search tests

-- A step keeps the body.
pub body-moved : (s : Sheets) (t : Transaction) (phase place verdict : ℕ) → Body s t → Body s (moved phase place verdict t)
unfolding held
body-moved s t phase place verdict b =
    record { number = b.number; known = b.known; flag = b.flag; few = b.few; entries = b.entries; distinct = b.distinct }

-- What the stage says in a phase.

abbrev place_at : List Letter → ℕ → Transaction → Bool
place_at us p t = place_formed us (moved p t.place t.verdict t)

abbrev verdict_at : ℕ → Transaction → Bool
verdict_at p t = verdict_formed (moved p t.place t.verdict t)

module _ (us : List Letter) (t : Transaction) (g : Stage us t) where
  pub place_at_lem : (p : ℕ) → t.phase ≡ p → place_at us p t ≡ true
  place_at_lem p e = ap (λ (q : ℕ). place_at us q t) (sym e) ∙ g.place

  pub verdict_at_lem : (p : ℕ) → t.phase ≡ p → verdict_at p t ≡ true
  verdict_at_lem p e = ap (λ (q : ℕ). verdict_at q t) (sym e) ∙ g.verdict

-- Groups and entries to validate: there are some.

groups_some : (us : List Letter) (es : List Entry) → is_empty es ≡ false → 0 < group_count us es
unfolding any
groups_some us [] h = absurd (true≢false h)
groups_some us (e ∷ es) h =
    let k : has_key e.key (e ∷ es) ≡ true = or_left (same_key e.key e.key) (has_key e.key es) (same_key_refl e.key) in
    let l : group_place us (e ∷ es) e.key < group_count us (e ∷ es) = place_below us (e ∷ es) e.key k in
    omega arith

pub groups_none : (us : List Letter) (es : List Entry) (i : ℕ) → i < group_count us es → is_empty es ≡ false
unfolding group_count scopes
groups_none us [] i l = absurd (omega arith)
groups_none us (e ∷ es) i l = refl

length_some : (es : List Entry) → is_empty es ≡ false → 0 < length es
length_some [] h = absurd (true≢false h)
length_some (e ∷ es) h = omega arith

-- The stages that steps lead to. A new phase starts at place 0.
module _ (us : List Letter) (t : Transaction) where
  pub to_withdraw : t.verdict ≡ no_verdict → Stage us (moved withdraw_phase 0 t.verdict t)
  unfolding place_formed verdict_formed puts held
  to_withdraw v = record { decides = refl; place = refl; verdict = eq-eqb t.verdict 0 v }

  pub to_prepare : t.verdict ≡ no_verdict → is_empty (puts t) ≡ false → Stage us (moved prepare_phase 0 t.verdict t)
  unfolding place_formed verdict_formed puts held
  to_prepare v n =
      record {
        decides = refl;
        place = lt-ltb 0 (group_count us (puts t)) (groups_some us (puts t) n);
        verdict = eq-eqb t.verdict 0 v;
      }

  pub to_validate_lem : t.verdict ≡ no_verdict → is_empty (to_validate us t) ≡ false → Stage us (moved validate_phase 0 t.verdict t)
  unfolding place_formed verdict_formed to_validate held
  to_validate_lem v n =
      record {
        decides = refl;
        place = lt-ltb 0 (length (to_validate us t)) (length_some (to_validate us t) n);
        verdict = eq-eqb t.verdict 0 v;
      }

  pub to_decide : t.verdict ≡ no_verdict → is_empty (puts t) ≡ false → Stage us (moved decide_phase 0 t.verdict t)
  unfolding place_formed verdict_formed puts held
  to_decide v n = record { decides = ap not n; place = refl; verdict = eq-eqb t.verdict 0 v }

  pub to_finish : is_empty (puts t) ≡ false → Stage us (moved finish_phase 0 committed_verdict t)
  unfolding place_formed verdict_formed puts held
  to_finish n =
      record { decides = refl; place = lt-ltb 0 (group_count us (puts t)) (groups_some us (puts t) n); verdict = refl }

  pub to_undo : is_empty (puts t) ≡ false → Stage us (moved undo_phase 0 aborted_verdict t)
  unfolding place_formed verdict_formed puts held
  to_undo n =
      record { decides = refl; place = lt-ltb 0 (group_count us (puts t)) (groups_some us (puts t) n); verdict = refl }

  pub to_done_committed : Stage us (moved done_phase 0 committed_verdict t)
  unfolding place_formed verdict_formed
  to_done_committed = record { decides = refl; place = refl; verdict = refl }

  pub to_done_aborted : Stage us (moved done_phase 0 aborted_verdict t)
  unfolding place_formed verdict_formed
  to_done_aborted = record { decides = refl; place = refl; verdict = refl }

  -- the next place in the same phase
  pub next_prepare : t.verdict ≡ no_verdict → ltb (t.place + 1) (group_count us (puts t)) ≡ true → Stage us (moved prepare_phase (t.place + 1) t.verdict t)
  unfolding place_formed verdict_formed puts held
  next_prepare v l = record { decides = refl; place = l; verdict = eq-eqb t.verdict 0 v }

  pub next_validate : t.verdict ≡ no_verdict → ltb (t.place + 1) (length (to_validate us t)) ≡ true → Stage us (moved validate_phase (t.place + 1) t.verdict t)
  unfolding place_formed verdict_formed to_validate held
  next_validate v l =
      record {
        decides = refl;
        place = l;
        verdict = eq-eqb t.verdict 0 v;
      }

  pub next_finish : t.verdict ≡ committed_verdict → ltb (t.place + 1) (group_count us (puts t)) ≡ true → Stage us (moved finish_phase (t.place + 1) t.verdict t)
  unfolding place_formed verdict_formed puts held
  next_finish v l = record { decides = refl; place = l; verdict = eq-eqb t.verdict 1 v }

  pub next_undo : t.verdict ≡ aborted_verdict → ltb (t.place + 1) (group_count us (puts t)) ≡ true → Stage us (moved undo_phase (t.place + 1) t.verdict t)
  unfolding place_formed verdict_formed puts held
  next_undo v l = record { decides = refl; place = l; verdict = eq-eqb t.verdict 2 v }

  -- "decide has a put"
  pub has_put : Stage us t → t.phase ≡ decide_phase → is_empty (puts t) ≡ false
  has_put g e = not-true (is_empty (puts t)) (ap (λ (p : ℕ). not (eqb p decide_phase) || not (is_empty (puts t))) (sym e) ∙ g.decides)

  -- open, at place 0, without a verdict
  pub stage_open : t.phase ≡ 0 → t.place ≡ 0 → t.verdict ≡ no_verdict → Stage us t
  unfolding place_formed verdict_formed
  stage_open e p v =
      record {
        decides = ap (λ (q : ℕ). not (eqb q decide_phase) || not (is_empty (puts t))) e;
        place = ap (λ (q : ℕ). place_at us q t) e ∙ eq-eqb t.place 0 p;
        verdict = ap (λ (q : ℕ). verdict_at q t) e ∙ eq-eqb t.verdict 0 v;
      }
