-- A transaction's own writes: preparing a group adds its columns to what is remembered; the one-phase write and the decision COMMITTED move the settled
-- lines exactly as the model's commit does.
use Rattle.std.specs.Prelude.{◌≡◌, ◌+◌, ◌≤◌, ◌<◌, ◌&&◌}
use Rattle.std.proofs.Common.{◌∙◌}
use Rattle.lists.specs.Basics.{refl, sym, ap, ap₂, ℕ, eqb, ltb, Bool, true, false, cond, List, length, Option, none, some, arith}
use Rattle.lists.specs.Basics.{eqb-true, eqb-false, ltb-true, ltb-false, eq-eqb, lt-ltb, le-ltb, choose_by, tests}
use Rattle.types.specs.declared.State.TheVariants as State
use Rattle.types.specs.declared.Before.TheVariants as Was
use Rattle.model.specs.Types.{Key, Record, Undecided, Committed, Entry, Transaction}
use Rattle.model.specs.Records.{line_of, prepared_rule, no_image}
use Rattle.model.specs.Coordinator.{Letter, Coordinator, decision, with_decision}
use Rattle.model.specs.Transactions.{held, puts}
use Rattle.model.specs.Groups.{group_count, group_place}
use Rattle.model.specs.Images.{is_prepared, prepared_by, prepared, committed, rolled_forward, rolled_back, Change, change_of, change_in}
use Rattle.model.specs.Writes.{Sheets, decide, commit, prepare, entry_for, by_entry, line_after, decisions_after, apply}
use Rattle.model.specs.Steps.{units_of, group_at}
use Rattle.model.specs.SequentialModel.{Model, model_commit, overwritten}
use Rattle.call_laws.specs.Images.{when_prepared}
use Rattle.call_laws.specs.Groups.{place_below}
use Rattle.call_laws.specs.Lines.{line_of_key, decide_linewise}
use Rattle.call_laws.specs.Sheets.{GoodSheets, MayPutAll, commit_linewise, prepare_linewise, decided-own}
use Rattle.recovery.specs.Settling.{settle, settled_plain, settled_by, settled_back, decided_other, undecided-committed}
use Rattle.recovery.specs.View.{View, own_key, own-rule, line_after_lem}
use Rattle.recovery.specs.Memory.{put_in, prepared_change}
use Rattle.recovery.specs.Puts.{put_of, put_in-puts, entry_in_group, found-has_key}

-- the columns of a key that is in one of the first p groups
abbrev pub done_to : List Letter → Transaction → ℕ → Key → Option Change
done_to us t p k = cond (ltb (group_place us (puts t) k) p) (put_in k (held t)) none

pub no_put : (us : List Letter) (t : Transaction) (p : ℕ) (k : Key) → put_in k (held t) ≡ none → done_to us t p k ≡ none
no_put us t p k e = choose_by (λ (x : Option Change). x ≡ none) (ltb (group_place us (puts t) k) p) (λ b. e) (λ b. refl)

-- a key with a put is in one of the groups
pub all_done : (us : List Letter) (t : Transaction) (k : Key) → done_to us t (group_count us (puts t)) k ≡ put_in k (held t)
unfolding puts
all_done us t k = go (entry_for k (puts t)) refl
  where
    go : (o : Option Entry) → entry_for k (puts t) ≡ o → done_to us t (group_count us (puts t)) k ≡ put_in k (held t)
    go none e =
        let n : put_in k (held t) ≡ none = put_in-puts k (held t) ∙ ap put_of e in
        no_put us t (group_count us (puts t)) k n ∙ sym n
    go (some x) e =
        let l : group_place us (puts t) k < group_count us (puts t) = place_below us (puts t) k (found-has_key k (puts t) x e) in
        ap (λ (b : Bool). cond b (put_in k (held t)) none) (lt-ltb (group_place us (puts t) k) (group_count us (puts t)) l)

-- Preparing a group.

prepared-own : (n now : ℕ) (c : Change) (r : Record) → prepared_change n (prepared n now c r) ≡ some c
unfolding prepared_change prepared_by prepared
prepared-own n now c r = let q : eqb n n ≡ true = eq-eqb n n refl in rw q refl

either_way : {A : Type 0} (b : Bool) (x : A) → cond b x x ≡ x
either_way true x = refl
either_way false x = refl

one_further : (g p : ℕ) → (g ≡ p → ⊥) → ltb g p ≡ ltb g (p + 1)
one_further g p n = go (ltb g p) refl
  where
    go : (b : Bool) → ltb g p ≡ b → b ≡ ltb g (p + 1)
    go true e = let l : g < p = ltb-true g p e in sym (lt-ltb g (p + 1) (omega arith))
    go false e =
        let l : p ≤ g = ltb-false g p e in
        sym (le-ltb g (p + 1) (apart l))
      where
        apart : p ≤ g → p + 1 ≤ g
        apart l = omega (arith, l, n)

prepared_some : (n : ℕ) (r : Record) → prepared_by n r ≡ true → prepared_change n r ≡ some (change_in r)
unfolding prepared_change
prepared_some n r q = rw q

prepared-none : (n : ℕ) (r : Record) → prepared_by n r ≡ false → prepared_change n r ≡ none
unfolding prepared_change
prepared-none n r q = rw q

-- rolling a prepared line forward is writing its columns over the line that was there
forward_overwrites : (n : ℕ) (r : Record) → prepared_rule r ≡ true → r.image.txid ≡ n → rolled_forward r ≡ overwritten n (some (change_in r)) (rolled_back r)
unfolding rolled_forward rolled_back overwritten prepared_rule
forward_overwrites n r h o =
    let v : r.image.version ≡ r.before.version + 1 = search tests in
    λ i. record {
      key = r.key;
      state = State.Committed;
      image = record { version = v i; txid = o i; column1 = r.image.column1; column2 = r.image.column2 };
      prior = Was.Nothing;
      before = no_image;
      clock = 0;
    }

-- a decision changes nothing for a line that its number has not prepared
other_decided : (n : ℕ) (r : Record) → prepared_by n r ≡ false → (c : Coordinator) → settle (with_decision n Committed c) r ≡ settle c r
unfolding prepared_by
other_decided n r q c = go (is_prepared r) refl
  where
    go : (p : Bool) → is_prepared r ≡ p → settle (with_decision n Committed c) r ≡ settle c r
    go false p = settled_plain (with_decision n Committed c) r p ∙ sym (settled_plain c r p)
    go true p =
        let o : eqb r.image.txid n ≡ false = ap (λ (b : Bool). b && eqb r.image.txid n) (sym p) ∙ q in
        let d : decision r.image.txid (with_decision n Committed c) ≡ decision r.image.txid c =
        decided_other n r.image.txid Committed c (λ e. eqb-false r.image.txid n o (sym e)) in
        settled_by (with_decision n Committed c) r (decision r.image.txid c) p d ∙ sym (settled_by c r (decision r.image.txid c) p refl)

module _ (s : Sheets) (good : GoodSheets s) (t : Transaction) where
  -- the entry that the group at a place has for a key
  group_entry : (k : Key) → entry_for k (group_at t s) ≡ cond (eqb (group_place (units_of s) (puts t) k) t.place) (entry_for k (puts t)) none
  group_entry k = entry_in_group (units_of s) (puts t) t.place k

  put_is : (k : Key) → put_in k (held t) ≡ put_of (entry_for k (puts t))
  unfolding puts
  put_is k = put_in-puts k (held t)

  -- the line of a key after its group was prepared
  pub prepare_columns : (now : ℕ) → MayPutAll s t.number (group_at t s) → ((k : Key) → prepared_change t.number (line_of k s.lines) ≡ done_to (units_of s) t t.place k) → (k : Key) → prepared_change t.number (line_of k (apply (prepare t.number now (group_at t s)) s).lines) ≡ done_to (units_of s) t (t.place + 1) k
  unfolding line_after apply
  prepare_columns now may before k =
      let w = prepare t.number now (group_at t s) in
      let o : entry_for (line_of k s.lines).key (group_at t s) ≡ cond (eqb (group_place (units_of s) (puts t) k) t.place) (entry_for k (puts t)) none =
      ap (λ (x : Key). entry_for x (group_at t s)) (line_of_key k s.lines) ∙ group_entry k in
      ap (prepared_change t.number) (line_after_lem s w (prepare_linewise s t.number now (group_at t s) may) k)
      ∙ (ap (λ (x : Option Entry). prepared_change t.number (by_entry x (line_of k s.lines) (λ (e : Entry). prepared t.number now (change_of e) (line_of k s.lines)))) o
      ∙ go (eqb (group_place (units_of s) (puts t) k) t.place) refl (entry_for k (puts t)) refl)
    where
      r : Record
      r = line_of k s.lines

      g : ℕ
      g = group_place (units_of s) (puts t) k

      go : (b : Bool) → eqb g t.place ≡ b → (x : Option Entry) → entry_for k (puts t) ≡ x → prepared_change t.number (by_entry (cond b x none) r (λ (e : Entry). prepared t.number now (change_of e) r)) ≡ done_to (units_of s) t (t.place + 1) k
      go true q none e =
          let n : put_in k (held t) ≡ none = put_is k ∙ ap put_of e in
          before k ∙ (no_put (units_of s) t t.place k n ∙ sym (no_put (units_of s) t (t.place + 1) k n))
      go true q (some x) e =
          let n : put_in k (held t) ≡ some x.put = put_is k ∙ ap put_of e in
          let p : g ≡ t.place = eqb-true g t.place q in
          let l : ltb g (t.place + 1) ≡ true = lt-ltb g (t.place + 1) (omega arith) in
          prepared-own t.number now (change_of x) r ∙ sym (ap₂ (λ (b : Bool) (c : Option Change). cond b c none) l n)
      go false q x e = before k ∙ ap (λ (b : Bool). cond b (put_in k (held t)) none) (one_further g t.place (eqb-false g t.place q))

  -- The model's commit.

  -- one phase: there is one group, at place 0
  pub one_phase_view : (m : Model) → ((k : Key) → m.writes t.number k ≡ put_in k (held t)) → MayPutAll s t.number (group_at t s) → t.place ≡ 0 → group_count (units_of s) (puts t) ≡ 1 → View s m → View (apply (commit t.number (group_at t s)) s) (model_commit t.number m)
  unfolding line_after decisions_after model_commit apply overwritten committed
  one_phase_view m sets may z one v k =
      let w = commit t.number (group_at t s) in
      let o : entry_for (line_of k s.lines).key (group_at t s) ≡ cond (eqb (group_place (units_of s) (puts t) k) t.place) (entry_for k (puts t)) none =
      ap (λ (x : Key). entry_for x (group_at t s)) (line_of_key k s.lines) ∙ group_entry k in
      ap (settle s.coordinator) (line_after_lem s w (commit_linewise s t.number (group_at t s) may) k)
      ∙ (go (entry_for k (puts t)) refl (eqb (group_place (units_of s) (puts t) k) t.place) refl o
      ∙ ap (λ (x : Option Change). overwritten t.number x (m.line k)) (sym (sets k)))
    where
      r : Record
      r = line_of k s.lines

      after : Option Entry → Record
      after x = by_entry x r (λ (e : Entry). committed t.number (change_of e) r)

      go : (x : Option Entry) → entry_for k (puts t) ≡ x → (b : Bool) → eqb (group_place (units_of s) (puts t) k) t.place ≡ b → entry_for r.key (group_at t s) ≡ cond (eqb (group_place (units_of s) (puts t) k) t.place) (entry_for k (puts t)) none → settle s.coordinator (after (entry_for r.key (group_at t s))) ≡ overwritten t.number (put_in k (held t)) (m.line k)
      go none e b q o =
          let n : put_in k (held t) ≡ none = put_is k ∙ ap put_of e in
          let i : entry_for r.key (group_at t s) ≡ none =
          o ∙ (ap (λ (y : Option Entry). cond (eqb (group_place (units_of s) (puts t) k) t.place) y none) e ∙ either_way (eqb (group_place (units_of s) (puts t) k) t.place) none) in
          ap (λ (y : Option Entry). settle s.coordinator (after y)) i
          ∙ (v k ∙ ap (λ (y : Option Change). overwritten t.number y (m.line k)) (sym n))
      go (some x) e true q o =
          let n : put_in k (held t) ≡ some x.put = put_is k ∙ ap put_of e in
          let i : entry_for r.key (group_at t s) ≡ some x = o ∙ (ap₂ (λ (c : Bool) (y : Option Entry). cond c y none) q e) in
          let f : is_prepared r ≡ false = ap is_prepared (sym (own_key s k)) ∙ (may r.key x i).1.free in
          let b : m.line k ≡ r = sym (v k) ∙ settled_plain s.coordinator r f in
          ap (λ (y : Option Entry). settle s.coordinator (after y)) i
          ∙ (settled_plain s.coordinator (committed t.number (change_of x) r) refl
          ∙ ap₂ (λ (y : Option Change) (z : Record). overwritten t.number y z) (sym n) (sym b))
      go (some x) e false q o =
          let p : group_place (units_of s) (puts t) k < group_count (units_of s) (puts t) = place_below (units_of s) (puts t) k (found-has_key k (puts t) x e) in
          absurd (eqb-false (group_place (units_of s) (puts t) k) t.place q (omega arith))

  -- a transaction without puts commits nothing
  pub empty_view : (m : Model) → ((k : Key) → m.writes t.number k ≡ none) → View s m → View s (model_commit t.number m)
  unfolding model_commit overwritten
  empty_view m sets v k = v k ∙ sym (ap (λ (x : Option Change). overwritten t.number x (m.line k)) (sets k))

  -- the decision: every put is prepared, and rolling it forward is what the model writes
  pub decide_view : (m : Model) → ((k : Key) → m.writes t.number k ≡ put_in k (held t)) → 1 ≤ t.number → t.number ≤ length s.coordinator.decisions → decision t.number s.coordinator ≡ Undecided → ((k : Key) → prepared_change t.number (line_of k s.lines) ≡ put_in k (held t)) → View s m → View (apply (decide t.number Committed) s) (model_commit t.number m)
  unfolding line_after decisions_after model_commit apply overwritten prepared_by
  decide_view m sets one known u done v k =
      ap (settle (with_decision t.number Committed s.coordinator)) (line_after_lem s (decide t.number Committed) (decide_linewise s.lines t.number Committed) k)
      ∙ (go (prepared_by t.number r) refl ∙ ap (λ (x : Option Change). overwritten t.number x (m.line k)) (sym (sets k)))
    where
      n : ℕ
      n = t.number

      r : Record
      r = line_of k s.lines

      go : (b : Bool) → prepared_by n r ≡ b → settle (with_decision n Committed s.coordinator) r ≡ overwritten n (put_in k (held t)) (m.line k)
      go true q =
          let p : is_prepared r ≡ true = search (tests, q) in
          let o : r.image.txid ≡ n = search (tests, q) in
          let d : decision r.image.txid (with_decision n Committed s.coordinator) ≡ Committed =
          ap (λ (x : ℕ). decision x (with_decision n Committed s.coordinator)) o ∙ decided-own n Committed s.coordinator one known in
          let b : m.line k ≡ rolled_back r =
          sym (v k) ∙ settled_back s.coordinator r p (λ e. undecided-committed (sym u ∙ (ap (λ (x : ℕ). decision x s.coordinator) (sym o) ∙ e))) in
          let c : put_in k (held t) ≡ some (change_in r) = sym (done k) ∙ prepared_some n r q in
          settled_by (with_decision n Committed s.coordinator) r Committed p d
          ∙ (forward_overwrites n r (when_prepared r p (own-rule s good k)) o
          ∙ ap₂ (λ (y : Option Change) (z : Record). overwritten n y z) (sym c) (sym b))
      go false q =
          let c : put_in k (held t) ≡ none = sym (done k) ∙ prepared-none n r q in
          other_decided n r q s.coordinator
          ∙ (v k ∙ ap (λ (y : Option Change). overwritten n y (m.line k)) (sym c))
