-- Histories of turns are histories of calls: a legal history of turns is a legal history of the calls that they come to, with the same sheets and the same
-- model. So demand 3 over calls is demand 3 over turns. What a kind of turn owes for it is `Comes`.
use Rattle.std.specs.Prelude.{◌≡◌, ◌<◌, ◌||◌, ◌∷◌, ◌++◌}
use Rattle.std.proofs.Common.{◌∙◌}
use Rattle.lists.specs.Basics.{refl, sym, ap, ap₂, subst, ℕ, eqb, Bool, true, false, cond, List, [], map, length, some}
use Rattle.lists.specs.Basics.{none-ne-some, some-injective, inl, inr, eqb-true, any}
use Rattle.lists.specs.Chosen.{any-map}
use Rattle.model.specs.Types.{Key, Record, Transaction, Request}
use Rattle.model.specs.Records.{same_key, keys_in, absent_at}
use Rattle.model.specs.Calls.{result_of}
use Rattle.model.specs.Images.{Change}
use Rattle.model.specs.Coordinator.{decision}
use Rattle.model.specs.Refusals.{refusal_of}
use Rattle.model.specs.Writes.{Sheets, sheets_good, apply, is_one_phase}
use Rattle.model.specs.Results.{Call, advance, Answer, turned_away, returns, Response, refused, answer_of}
use Rattle.model.specs.Closing.{starting, closing_calls, most_steps, close_conditions}
use Rattle.model.specs.Operations.{Operation, once, close, stands_for, settled, close_run, ended, response, sheets_left, calls_of}
use Rattle.model.specs.CallByPlace.{listed, operation_at, call_at, response_at}
use Rattle.model.specs.Histories.{Event, answer, written, after, given, Available, Permitted, event, events_after, left_by, Legal, one_phase_in}
use Rattle.model.specs.SequentialModel.{Model, first_model, model_call, model_step, model_after, is_committed, keys_step, keys_after}
use Rattle.model.specs.RecoveryPass.{Visit, visit_call, none_prepared, Closing}
use Rattle.model.specs.Turns.{Turn, single, by_place, turn_call, turn_response, turn_event, turn_after, turn_one_phase, comes_to, expanded, turns_left, one_phase_turn}
use Rattle.model.specs.Turns.{turn_events, LegalTurns}
use Rattle.model.specs.Recovered.{model_after_turns, CommittedExactly}
use Rattle.sheet_laws.specs.KeyOrder.{lists_key}
use Rattle.call_laws.specs.Sheets.{parts_good}
use Rattle.call_laws.specs.StandingKeys.{response_keys}
use Rattle.call_laws.specs.ByPlace.{named-response, unlisted_response, by_place_lem}
use Rattle.recovery.specs.Invariant.{Inv}
use Rattle.recovery.specs.History.{first_inv, ones_after, history_kept}
use Rattle.recovery.specs.Theorem.{recovered_by, recovery_theorem}
use Rattle.recovery.specs.Commits.{exactly-same, commits-exactly}
use Rattle.closing_laws.specs.Steps.{starts_sound}
use Rattle.closing_laws.specs.Advances.{model_taken, RunAsAdvances, close_is_advances}
use Rattle.turns.specs.Operations.{settled-left, settled-answer}

-- Histories one after another.

legal_append : (xs ys : List Call) (s : Sheets) (es : List Event) → Legal answer after xs s es → Legal answer after ys (left_by answer after xs s) (events_after answer after xs s es) → Legal answer after (xs ++ ys) s es
unfolding left_by events_after
legal_append [] ys s es l m = m
legal_append (x ∷ xs) ys s es l m = (l.0, legal_append xs ys (after x s) (event answer after x s ∷ es) l.1 m)

left-append : (xs ys : List Call) (s : Sheets) → left_by answer after (xs ++ ys) s ≡ left_by answer after ys (left_by answer after xs s)
unfolding left_by
left-append [] ys s = refl
left-append (x ∷ xs) ys s = left-append xs ys (after x s)

events-append : (xs ys : List Call) (s : Sheets) (es : List Event) → events_after answer after (xs ++ ys) s es ≡ events_after answer after ys (left_by answer after xs s) (events_after answer after xs s es)
unfolding left_by events_after
events-append [] ys s es = refl
events-append (x ∷ xs) ys s es = events-append xs ys (after x s) (event answer after x s ∷ es)

or_assoc : (a b c : Bool) → (a || (b || c)) ≡ ((a || b) || c)
or_assoc true b c = refl
or_assoc false b c = refl

ones_append : (n : ℕ) (xs ys : List Call) (s : Sheets) → one_phase_in written after n (xs ++ ys) s ≡ (one_phase_in written after n xs s || one_phase_in written after n ys (left_by answer after xs s))
unfolding left_by one_phase_in
ones_append n [] ys s = refl
ones_append n (x ∷ xs) ys s =
    ap (λ (b : Bool). is_one_phase n (written x s) || b) (ones_append n xs ys (after x s))
    ∙ or_assoc (is_one_phase n (written x s)) (one_phase_in written after n xs (after x s)) (one_phase_in written after n ys (left_by answer after xs (after x s)))

-- What is owed for a turn that is the event e, leaves s' and comes to the calls cs: they are legal, leave what it leaves, hand on what it hands on, and the
-- model commits as it does. es are the events of turns, es' those of the calls that they came to.
pub record Comes (cs : List Call) (e : Event) (s s' : Sheets) (es es' : List Event) : Type 0 where
  pub legal : Legal answer after cs s es'
  pub left : left_by answer after cs s ≡ s'
  pub handed : (t : Transaction) → Available t (e ∷ es) → Available t (events_after answer after cs s es')
  pub model : (m : Model) → model_after es' m ≡ model_after es m → model_after (events_after answer after cs s es') m ≡ model_step e (model_after es m)

abbrev event_of : Call → Response Answer Sheets → Event
event_of c r = record { call = c; answer = answer_of r }

-- the events of turns hand on what those of calls do
module _ (s : Sheets) (es es' : List Event) (handed-on : (t : Transaction) → Available t es → Available t es') where
  abbrev Come : List Call → Call → Response Answer Sheets → Type 0
  Come cs c r = Comes cs (event_of c r) s (sheets_left s r) es es'

  abbrev May : Call → Response Answer Sheets → Type 0
  May c r = Permitted c (answer_of r) es

  single_comes : (c : Call) → Permitted c (answer c s) es → Comes (c ∷ []) (event answer after c s) s (after c s) es es'
  unfolding left_by events_after model_after
  single_comes c p =
      record {
        legal = (record { clock = p.clock; state = λ t e. handed-on t (p.state t e) }, tt);
        left = refl;
        handed = handed;
        model = λ m e. ap (model_step (event answer after c s)) e;
      }
    where
      handed : (t : Transaction) → Available t (event answer after c s ∷ es) → Available t (event answer after c s ∷ es')
      handed t (inl q) = inl q
      handed t (inr b) = inr (b.0, handed-on t b.1)

  once_comes : (c : Call) → May c (settled s (result_of c s)) → Come (c ∷ []) c (settled s (result_of c s))
  unfolding answer after written
  once_comes c p =
      let e : answer_of (settled s (result_of c s)) ≡ answer c s = settled-answer s (result_of c s) in
      subst (λ (a : Answer). Comes (c ∷ []) (record { call = c; answer = a }) s (sheets_left s (settled s (result_of c s))) es es') (sym e)
      (subst (λ (s' : Sheets). Comes (c ∷ []) (event answer after c s) s s' es es') (sym (settled-left s (result_of c s)))
      (single_comes c (subst (λ (a : Answer). Permitted c a es) e p)))

  -- a turn that is refused comes to nothing
  refused_comes : (c : Call) (i : ℕ) → Come [] c (refused i)
  unfolding left_by events_after model_step returns
  refused_comes c i = record { legal = tt; left = refl; handed = handed; model = λ m e. e }
    where
      handed : (t : Transaction) → Available t (record { call = c; answer = turned_away i } ∷ es) → Available t es'
      handed t (inl q) = absurd (none-ne-some t q)
      handed t (inr b) = handed-on t b.1

  module _ {base : ℕ} {one : ℕ → Bool} {m : Model} (inv : Inv base one s es' m) where
    -- A close that isn't refused comes to its advances. A state that it didn't take has another number than the one that it took, which is the only one available
    -- under its number, so that none of the states in between is that one.
    run_comes : (t : Transaction) (now limit : ℕ) → refusal_of (close_conditions t s) ≡ 0 → May (advance t now) (ended (close_run t now limit s))
        → Come (closing_calls most_steps now (starting t limit s)) (advance t now) (ended (close_run t now limit s))
    unfolding model_step model_call returns given
    run_comes t now limit z p =
        let a : Available t es' = handed-on t (p.state t refl) in
        let k = starts_sound t limit s (parts_good s inv.good) z in
        let r : RunAsAdvances most_steps now (starting t limit s) es' = close_is_advances most_steps now p.clock (starting t limit s) k es' a in
        record { legal = r.legal; left = r.left; handed = handed a r; model = λ m e. r.model m ∙ ap (model_taken t u) e }
      where
        u : Transaction
        u = (close_run t now limit s).transaction

        made_events : List Event
        made_events = events_after answer after (closing_calls most_steps now (starting t limit s)) s es'

        handed : Available t es' → RunAsAdvances most_steps now (starting t limit s) es' → (x : Transaction)
            → Available x (event_of (advance t now) (ended (close_run t now limit s)) ∷ es)
            → Available x made_events
        handed a r x (inl q) = subst (λ (y : Transaction). Available y made_events) (some-injective u x q) r.mine
        handed a r x (inr b) =
            let h : Available x es' = handed-on x b.1 in
            r.others x (λ n. b.0 (ap some (inv.unique t x a h (sym n)))) h

    operation_comes : (o : Operation) → May (stands_for o) (response o s) → Come (calls_of o s) (stands_for o) (response o s)
    unfolding stands_for response calls_of
    operation_comes (once c) p = once_comes c p
    operation_comes (close t now limit) p = go (eqb (refusal_of (close_conditions t s)) 0) refl p
      where
        n : ℕ
        n = refusal_of (close_conditions t s)

        by : Bool → Response Answer Sheets
        by b = cond b (ended (close_run t now limit s)) (refused n)

        go : (b : Bool) → eqb n 0 ≡ b → May (advance t now) (by b)
            → Come (cond b (closing_calls most_steps now (starting t limit s)) []) (advance t now) (by b)
        go true e q = run_comes t now limit (eqb-true n 0 e) q
        go false e q = refused_comes (advance t now) n

    by_place_comes : (list : List Transaction) (place : ℕ) (q : Request) → May (call_at list place q) (response_at list place q s)
        → Come (cond (listed (length list) place) (calls_of (operation_at list place q) s) []) (call_at list place q) (response_at list place q s)
    by_place_comes list place q p = go (listed (length list) place) refl
      where
        o : Operation
        o = operation_at list place q

        go : (b : Bool) → listed (length list) place ≡ b → Come (cond b (calls_of o s) []) (stands_for o) (response_at list place q s)
        go true e =
            let same : response_at list place q s ≡ response o s = named-response list place q s e in
            subst (Come (calls_of o s) (stands_for o)) (sym same) (operation_comes o (subst (May (stands_for o)) same p))
        go false e = subst (Come [] (stands_for o)) (sym (unlisted_response list place q s e)) (refused_comes (stands_for o) 3)

    turn_comes : (x : Turn) → Permitted (turn_event x s).call (turn_event x s).answer es → Comes (comes_to x s) (turn_event x s) s (turn_after x s) es es'
    unfolding comes_to turn_event turn_after turn_call turn_response
    turn_comes (single o) p = operation_comes o p
    turn_comes (by_place list place q) p = by_place_comes list place q p

-- The reduction.

pub record Reduced (xs : List Turn) (s : Sheets) (es es' : List Event) (m : Model) : Type 0 where
  pub legal : Legal answer after (expanded xs s) s es'
  pub left : left_by answer after (expanded xs s) s ≡ turns_left turn_after xs s
  pub model : model_after (events_after answer after (expanded xs s) s es') m ≡ model_after (turn_events turn_after turn_event xs s es) m
  pub ones : (n : ℕ) → one_phase_in written after n (expanded xs s) s ≡ one_phase_turn turn_after turn_one_phase n xs s

pub reduce : {base : ℕ} {one : ℕ → Bool} (xs : List Turn) (s : Sheets) (es es' : List Event) (m : Model) → Inv base one s es' (model_after es' m) → ((t : Transaction) → Available t es → Available t es') → model_after es' m ≡ model_after es m → LegalTurns turn_after turn_event xs s es → Reduced xs s es es' m
unfolding expanded turns_left turn_events one_phase_turn turn_one_phase left_by events_after model_after one_phase_in
reduce [] s es es' m inv h e l = record { legal = tt; left = refl; model = e; ones = λ n. refl }
reduce {base} {one} (x ∷ xs) s es es' m inv h e l =
    let c = turn_comes s es es' h inv x l.0 in
    let cs = comes_to x s in
    let es₁ = events_after answer after cs s es' in
    let kept : Inv base (ones_after cs s one) (turn_after x s) es₁ (model_after es₁ m) =
    subst (λ (y : Sheets). Inv base (ones_after cs s one) y es₁ (model_after es₁ m)) c.left (history_kept cs s es' m inv c.legal) in
    let r : Reduced xs (turn_after x s) (turn_event x s ∷ es) es₁ m = reduce {base = base} {one = ones_after cs s one} xs (turn_after x s) (turn_event x s ∷ es) es₁ m kept c.handed (c.model m e) l.1 in
    let next = expanded xs (turn_after x s) in
    record {
      legal = legal_append cs next s es' c.legal (subst (λ (y : Sheets). Legal answer after next y es₁) (sym c.left) r.legal);
      left = left-append cs next s ∙ (ap (left_by answer after next) c.left ∙ r.left);
      model =
          ap (λ (z : List Event). model_after z m) (events-append cs next s es')
          ∙ (ap (λ (y : Sheets). model_after (events_after answer after next y es₁) m) c.left ∙ r.model);
      ones = λ n. ones_append n cs next s
          ∙ ap (λ (b : Bool). one_phase_in written after n cs s || b) (ap (one_phase_in written after n next) c.left ∙ r.ones n);
    }

-- Demand 3 over turns and decoded sheets.

-- the sheets after a history, and after visits that follow it
abbrev pub recovered_after : List Visit → List Turn → Sheets → Sheets
recovered_after vs xs s = left_by answer after (map visit_call vs) (turns_left turn_after xs s)

abbrev pub model_of_turns : List Turn → Sheets → Model
model_of_turns xs s = model_after_turns (λ (y : Sheets). y) turn_after turn_event xs s

-- the keys that have a line after a history
abbrev pub keys_of_turns : List Turn → Sheets → List Key
keys_of_turns xs s = keys_after (turn_events turn_after turn_event xs s []) (keys_in s.lines)

turn_keys : (x : Turn) (s : Sheets) → keys_in (turn_after x s).lines ≡ keys_step (turn_event x s).call (turn_event x s).answer (keys_in s.lines)
unfolding turn_after turn_event turn_call turn_response keys_step
turn_keys (single o) s = response_keys o s
turn_keys (by_place list place q) s =
    by_place_lem list place q s (λ (r : Response Answer Sheets). keys_in (sheets_left s r).lines ≡ keys_step (call_at list place q) (answer_of r) (keys_in s.lines))
    (response_keys (operation_at list place q) s) refl

turns_keys : (xs : List Turn) (s : Sheets) (es : List Event) (ks : List Key) → keys_in s.lines ≡ keys_after es ks → keys_in (turns_left turn_after xs s).lines ≡ keys_after (turn_events turn_after turn_event xs s es) ks
unfolding turns_left turn_events keys_after
turns_keys [] s es ks h = h
turns_keys (x ∷ xs) s es ks h = turns_keys xs (turn_after x s) (turn_event x s ∷ es) ks (turn_keys x s ∙ ap (keys_step (turn_event x s).call (turn_event x s).answer) h)

-- a key among them has a line
keys_listed : (k : Key) (rs : List Record) → any (λ (j : Key). same_key j k) (keys_in rs) ≡ lists_key k rs
keys_listed k rs = any-map (λ (r : Record). r.key) (λ (j : Key). same_key j k) rs

pub record RecoveredSheets (vs : List Visit) (xs : List Turn) (s : Sheets) : Type 0 where
  pub unprepared : none_prepared (recovered_after vs xs s).lines ≡ true
  pub lines : (recovered_after vs xs s).lines ≡ map (model_of_turns xs s).line (keys_of_turns xs s)
  pub missing : (k : Key) → any (λ (j : Key). same_key j k) (keys_of_turns xs s) ≡ false → (model_of_turns xs s).line k ≡ absent_at k
  pub size : (recovered_after vs xs s).size ≡ s.size
  pub committed : (n : ℕ) → s.coordinator.issued < n → (k : Key) (c : Change) → (model_of_turns xs s).writes n k ≡ some c → CommittedExactly (is_committed n (model_of_turns xs s)) (decision n (recovered_after vs xs s).coordinator) (one_phase_turn turn_after turn_one_phase n xs s)

-- no call changes how many lines there are
size-left : (cs : List Call) (s : Sheets) → (left_by answer after cs s).size ≡ s.size
unfolding left_by after apply
size-left [] s = refl
size-left (c ∷ cs) s = size-left cs (after c s)

pub turns_recover : (s : Sheets) → sheets_good s ≡ true → none_prepared s.lines ≡ true → (xs : List Turn) → LegalTurns turn_after turn_event xs s [] → (vs : List Visit) → Closing (λ (y : Sheets). y) after vs (turns_left turn_after xs s) → RecoveredSheets vs xs s
unfolding model_after keys_after
turns_recover s g z xs legal vs c =
    let r : Reduced xs s [] [] (first_model s.lines) = reduce xs s [] [] (first_model s.lines) (first_inv s g z) (λ t a. a) refl legal in
    let cs = expanded xs s in
    let t = recovery_theorem s g z cs r.legal vs (subst (Closing (λ (y : Sheets). y) after vs) (sym r.left) c) in
    let keys : keys_in (left_by answer after cs s).lines ≡ keys_of_turns xs s = ap (λ (y : Sheets). keys_in y.lines) r.left ∙ turns_keys xs s [] (keys_in s.lines) refl in
    let e : recovered_by vs cs s ≡ recovered_after vs xs s = ap (left_by answer after (map visit_call vs)) r.left in
    record {
      unprepared = ap (λ (y : Sheets). none_prepared y.lines) (sym e) ∙ t.unprepared;
      lines =
          ap (λ (y : Sheets). y.lines) (sym e)
          ∙ (t.lines ∙ ap₂ (λ (m : Model) (ks : List Key). map m.line ks) r.model keys);
      missing = λ k h.
          ap (λ (m : Model). m.line k) (sym r.model)
          ∙ t.missing k (sym (keys_listed k (left_by answer after cs s).lines) ∙ (ap (any (λ (j : Key). same_key j k)) keys ∙ h));
      size = ap (λ (y : Sheets). y.size) (sym e) ∙ (size-left (map visit_call vs) (left_by answer after cs s) ∙ size-left cs s);
      committed = λ n new k x put. exactly-same (ap (is_committed n) r.model) (ap (λ (y : Sheets). decision n y.coordinator) e) (r.ones n)
          (commits-exactly s g z cs r.legal vs n new k x (ap (λ (m : Model). m.writes n k) r.model ∙ put));
    }
