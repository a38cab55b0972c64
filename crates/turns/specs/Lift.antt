-- Demand 3 from decoded sheets to any kind of sheets that say them. A legal history there is a legal history on what they say, turn by turn, since accepted
-- sheets stay accepted and say what the turn leaves; and accepted sheets have the text of what they say.
use Rattle.std.specs.Prelude.{◌≡◌, ◌||◌, ◌∷◌}
use Rattle.std.proofs.Common.{◌∙◌}
use Rattle.lists.specs.Basics.{refl, sym, ap, ap₂, subst, ℕ, Bool, true, List, [], map, some, any}
use Rattle.model.specs.Types.{Key, Transaction}
use Rattle.model.specs.Records.{same_key, keys_in}
use Rattle.model.specs.Spares.{sheet_for}
use Rattle.model.specs.ByteCalls.{sheet_text}
use Rattle.model.specs.Coordinator.{decision}
use Rattle.model.specs.Writes.{Sheets, sheets_good}
use Rattle.model.specs.Results.{Call, returns}
use Rattle.model.specs.WellFormed.{well_formed}
use Rattle.model.specs.Histories.{Event, answer, after, ClockFits, Permitted, left_by}
use Rattle.model.specs.SequentialModel.{Model, first_model, model_after, is_committed, keys_after}
use Rattle.model.specs.RecoveryPass.{Visit, visit_call, none_prepared, Expiring, Closing, Readings, leaves_readings, readings_of}
use Rattle.model.specs.Turns.{Turn, turn_event, turn_after, turn_one_phase, turns_left, one_phase_turn, turn_events, LegalTurns}
use Rattle.model.specs.Kinds.{Kind}
use Rattle.model.specs.Recovered.{history_model, history_keys, sheets_recovered, one_phase_made, RecoveredOn}
use Rattle.call_laws.specs.Sheets.{good_parts}
use Rattle.recovery.specs.Commits.{exactly-same}
use Rattle.recovery.specs.PassExists.{recovery_pass, pass_exists}
use Rattle.recovery.specs.PassNeeds.{pass_needs}
use Rattle.recovery.specs.Readings.{readings_exist}
use Rattle.turns.specs.Turns.{turn-returns-formed}
use Rattle.turns.specs.Reduction.{recovered_after, model_of_turns, keys_of_turns, RecoveredSheets, turns_recover}

-- What calls and turns do with accepted sheets of a kind is what they do with what the sheets say.
pub record Faithful {S : Type 0} (kind : Kind S) : Type 0 where
  pub good : (b : S) → kind.passes b → sheets_good (kind.sheets b) ≡ true
  pub same_event : (x : Turn) (b : S) → kind.passes b → kind.events x b ≡ turn_event x (kind.sheets b)
  pub stays : (x : Turn) (b : S) → ClockFits (kind.events x b).call → kind.passes b → (kind.sheets (kind.turned x b) ≡ turn_after x (kind.sheets b)) × kind.passes (kind.turned x b)
  pub same_answer : (c : Call) (b : S) → kind.passes b → kind.answers c b ≡ answer c (kind.sheets b)
  pub call_stays : (c : Call) (b : S) → ClockFits c → kind.passes b → (kind.sheets (kind.leaves c b) ≡ after c (kind.sheets b)) × kind.passes (kind.leaves c b)
  pub text_is : (b : S) → kind.passes b → kind.text b ≡ sheet_text (kind.sheets b)

module _ {S : Type 0} (kind : Kind S) (laws : Faithful kind) where
  abbrev sheets : S → Sheets
  sheets = kind.sheets

  abbrev turned : Turn → S → S
  turned = kind.turned

  abbrev events : Turn → S → Event
  events = kind.events

  -- the transaction that a turn returns is well formed, on the sheets that it leaves
  pub returns_formed_of : (x : Turn) (b : S) (t : Transaction) → ClockFits (events x b).call → kind.passes b → returns (events x b).answer ≡ some t → well_formed (sheets (turned x b)) t ≡ true
  returns_formed_of x b t l p e =
      let q : events x b ≡ turn_event x (sheets b) = laws.same_event x b p in
      ap (λ (s : Sheets). well_formed s t) (laws.stays x b l p).0
      ∙ turn-returns-formed x (sheets b) t (subst (λ (y : Event). ClockFits y.call) q l) (laws.good b p) (ap (λ (y : Event). returns y.answer) (sym q) ∙ e)

  -- A history, and what it is on what the sheets say.
  pub record Lifted (xs : List Turn) (b : S) (es : List Event) : Type 0 where
    pub legal : LegalTurns turn_after turn_event xs (sheets b) es
    pub says : sheets (turns_left turned xs b) ≡ turns_left turn_after xs (sheets b)
    pub passes : kind.passes (turns_left turned xs b)
    pub told : turn_events turned events xs b es ≡ turn_events turn_after turn_event xs (sheets b) es
    pub ones : (n : ℕ) → one_phase_made kind n xs b ≡ one_phase_turn turn_after turn_one_phase n xs (sheets b)

  pub lift : (xs : List Turn) (b : S) (es : List Event) → kind.passes b → LegalTurns turned events xs b es → Lifted xs b es
  unfolding turns_left turn_events one_phase_turn
  lift [] b es p l = record { legal = tt; says = refl; passes = p; told = refl; ones = λ n. refl }
  lift (x ∷ xs) b es p l =
      let q = laws.stays x b l.0.clock p in
      let e : events x b ≡ turn_event x (sheets b) = laws.same_event x b p in
      let r : Lifted xs (turned x b) (events x b ∷ es) = lift xs (turned x b) (events x b ∷ es) q.1 l.1 in
      record {
        legal = (
          subst (λ (y : Event). Permitted y.call y.answer es) e l.0,
          subst (λ (y : Event). LegalTurns turn_after turn_event xs (turn_after x (sheets b)) (y ∷ es)) e
              (subst (λ (s : Sheets). LegalTurns turn_after turn_event xs s (events x b ∷ es)) q.0 r.legal),
        );
        says = r.says ∙ ap (turns_left turn_after xs) q.0;
        passes = r.passes;
        told = r.told ∙ ap₂ (λ (s : Sheets) (y : Event). turn_events turn_after turn_event xs s (y ∷ es)) q.0 e;
        ones = λ n. ap (λ (a : Bool). turn_one_phase n x (sheets b) || a) (r.ones n ∙ ap (one_phase_turn turn_after turn_one_phase n xs) q.0);
      }

  -- Visits, which are calls.

  abbrev visited : List Visit → S → S
  visited vs b = left_by kind.answers kind.leaves (map visit_call vs) b

  visits_lift : (vs : List Visit) (b : S) → kind.passes b → Expiring sheets kind.leaves vs b → Expiring (λ (s : Sheets). s) after vs (sheets b) × ((sheets (visited vs b) ≡ left_by answer after (map visit_call vs) (sheets b)) × kind.passes (visited vs b))
  unfolding left_by
  visits_lift [] b p x = (tt, (refl, p))
  visits_lift (v ∷ vs) b p x =
      let q = laws.call_stays (visit_call v) b x.0 p in
      let r = visits_lift vs (kind.leaves (visit_call v) b) q.1 x.1.1 in (
        (x.0, (x.1.0, subst (Expiring (λ (s : Sheets). s) after vs) q.0 r.0)),
        (r.1.0 ∙ ap (left_by answer after (map visit_call vs)) q.0, r.1.1),
      )

  -- Demand 3 of what the sheets say, and how it is told of the sheets themselves.
  record LiftedPass (vs : List Visit) (xs : List Turn) (b : S) : Type 0 where
    pub says : sheets (visited vs (turns_left turned xs b)) ≡ recovered_after vs xs (sheets b)
    pub passes : kind.passes (visited vs (turns_left turned xs b))
    pub model : model_of_turns xs (sheets b) ≡ history_model kind xs b
    pub keys : keys_of_turns xs (sheets b) ≡ history_keys kind xs b
    pub ones : (n : ℕ) → one_phase_made kind n xs b ≡ one_phase_turn turn_after turn_one_phase n xs (sheets b)
    pub recovered : RecoveredSheets vs xs (sheets b)

  pass_lift : (b : S) → kind.passes b → none_prepared (sheets b).lines ≡ true → (xs : List Turn) → LegalTurns turned events xs b [] → (vs : List Visit) → Closing sheets kind.leaves vs (turns_left turned xs b) → LiftedPass vs xs b
  pass_lift b p z xs legal vs c =
      let h : Lifted xs b [] = lift xs b [] p legal in
      let v = visits_lift vs (turns_left turned xs b) h.passes c.expiring in
      let closing : Closing (λ (s : Sheets). s) after vs (turns_left turn_after xs (sheets b)) =
      subst (Closing (λ (s : Sheets). s) after vs) h.says (record { twice = c.twice; expiring = v.0 }) in
      record {
        says = v.1.0 ∙ ap (left_by answer after (map visit_call vs)) h.says;
        passes = v.1.1;
        model = ap (λ (es : List Event). model_after es (first_model (sheets b).lines)) (sym h.told);
        keys = ap (λ (es : List Event). keys_after es (keys_in (sheets b).lines)) (sym h.told);
        ones = h.ones;
        recovered = turns_recover (sheets b) (laws.good b p) z xs h.legal vs closing;
      }

  -- DEMAND 3. For all accepted sheets without a PREPARED line; for every legal history of turns on them, refused ones included; for every recovery pass after it.
  pub demand_3_of : (b : S) → kind.passes b → none_prepared (sheets b).lines ≡ true → (xs : List Turn) → LegalTurns turned events xs b [] → (vs : List Visit) → Closing sheets kind.leaves vs (turns_left turned xs b) → RecoveredOn kind vs xs b
  demand_3_of b p z xs legal vs c =
      let l : LiftedPass vs xs b = pass_lift b p z xs legal vs c in
      let r = l.recovered in
      record {
        unprepared = ap (λ (s : Sheets). none_prepared s.lines) l.says ∙ r.unprepared;
        lines =
            laws.text_is (sheets_recovered kind vs xs b) l.passes
            ∙ (ap sheet_text l.says
            ∙ (ap₂ sheet_for r.lines r.size ∙ ap₂ (λ (m : Model) (ks : List Key). sheet_for (map m.line ks) (sheets b).size) l.model l.keys));
        missing = λ k h. ap (λ (m : Model). m.line k) (sym l.model) ∙ r.missing k (ap (any (λ (j : Key). same_key j k)) l.keys ∙ h);
        committed = λ n new k x put.
            exactly-same (ap (is_committed n) l.model) (sym (ap (λ (s : Sheets). decision n s.coordinator) l.says)) (sym (l.ones n))
            (r.committed n new k x (ap (λ (m : Model). m.writes n k) l.model ∙ put));
      }

  -- A recovery pass exists after a legal history that leaves each undecided number a reading.

  expiring_on : (vs : List Visit) (b : S) → kind.passes b → Expiring (λ (s : Sheets). s) after vs (sheets b) → Expiring sheets kind.leaves vs b
  expiring_on [] b p x = tt
  expiring_on (v ∷ vs) b p x =
      let q = laws.call_stays (visit_call v) b x.0 p in
      (x.0, (x.1.0, expiring_on vs (kind.leaves (visit_call v) b) q.1 (subst (Expiring (λ (s : Sheets). s) after vs) (sym q.0) x.1.1)))

  pub pass_exists_on : (b : S) → kind.passes b → (xs : List Turn) → LegalTurns turned events xs b [] → (clocks : ℕ → ℕ) → Readings clocks (sheets (turns_left turned xs b))
      → Closing sheets kind.leaves (recovery_pass clocks (sheets (turns_left turned xs b))) (turns_left turned xs b)
  pass_exists_on b p xs legal clocks g =
      let left = turns_left turned xs b in
      let h : kind.passes left = (lift xs b [] p legal).passes in
      let c = pass_exists clocks (sheets left) g in
      record { twice = c.twice; expiring = expiring_on (recovery_pass clocks (sheets left)) left h c.expiring }

  -- of which it can be told from the sheets whether there is one
  pub pass_told_on : (b : S) → kind.passes b → (xs : List Turn) → LegalTurns turned events xs b [] → leaves_readings (sheets (turns_left turned xs b)) ≡ true
      → Closing sheets kind.leaves (recovery_pass (readings_of (sheets (turns_left turned xs b))) (sheets (turns_left turned xs b))) (turns_left turned xs b)
  pass_told_on b p xs legal h =
      let s = sheets (turns_left turned xs b) in
      pass_exists_on b p xs legal (readings_of s) (readings_exist s h)

  -- and only where each undecided number has a reading
  pub pass_needs_on : (b : S) → kind.passes b → (vs : List Visit) → Closing sheets kind.leaves vs b → leaves_readings (sheets b) ≡ true
  pass_needs_on b p vs c =
      pass_needs (sheets b) (good_parts (sheets b) (laws.good b p)) vs (record { twice = c.twice; expiring = (visits_lift vs b p c.expiring).0 })
