-- When a step writes, phase by phase: a group that is put writes if it has an entry, and a group that is rolled if the line of one of its entries is prepared
-- by the number. The model asks the latter of all lines; on a sheet in order the line of a key is the only one that has it.
use Rattle.std.specs.Prelude.{◌≡◌, ◌<◌, ◌&&◌, ◌||◌, ◌∷◌}
use Rattle.std.proofs.Common.{◌∙◌}
use Rattle.lists.specs.Basics.{refl, sym, ap, ap₂, ℕ, eqb, Bool, true, false, not, cond, true≢false, and-true, and-false, or-false}
use Rattle.lists.specs.Basics.{List, [], get_or, all, any, choose_by, and_snd}
use Rattle.lists.specs.Chosen.{Missed, any-filter, any_weaken}
use Rattle.model.specs.Types.{Key, Record, Entry, Transaction}
use Rattle.model.specs.Records.{no_record, records, rising, in_order, same_key, line_of}
use Rattle.model.specs.Coordinator.{decision}
use Rattle.model.specs.Transactions.{by_phase, is_empty, puts, to_validate, no_entry, held}
use Rattle.model.specs.Groups.{scopes, group_count}
use Rattle.model.specs.Images.{prepared_by, by_decision}
use Rattle.model.specs.Writes.{Sheets, is_of}
use Rattle.model.specs.Steps.{Step, holds, units_of, group_at, keys_of, to, holds_lower, one_phase_allowed, open_without_puts, one_phase, open_step, prepare_step, validate_step}
use Rattle.model.specs.Steps.{decide_step, withdraw_step, finish_step, undo_step, no_step, step}
use Rattle.model.specs.Closing.{changes}
use Rattle.model.specs.ByteCalls.{sheets_of}
use Rattle.call_laws.specs.Choices.{by_decision_of}
use Rattle.sheet_laws.specs.KeyOrder.{same_key_lem, same_key_refl, lists_key, apart}
use Rattle.call_laws.specs.Keys.{same_key_flip}
use Rattle.held_lines.specs.Located.{prepared_at_lem}
use Rattle.call_laws.specs.Sheets.{good_parts}
use Rattle.call_laws.specs.Lifting.{lines_good}
use Rattle.transactions.specs.Held.{entry_at, some_kept}
use Rattle.held_lines.specs.declared.Located.{Located}
use Rattle.group_writes.specs.Groups.{of_group, group_in_lem}
use Rattle.group_writes.specs.Ready.{Ready}
use Rattle.steps.specs.Ready.{Ready as MayStep}
use Rattle.steps.specs.Cases.{step_at_lem, step-none}

-- the puts of the group at the transaction's place would be written
abbrev pub puts_group : Transaction → Sheets → Bool
puts_group t s = all (holds s) (group_at t s) && not (is_empty (group_at t s))

-- the line of the entry's key is prepared by the number
abbrev pub rolled_at : ℕ → List Record → Entry → Bool
rolled_at n rs e = prepared_by n (line_of e.key rs)

-- some line of the group would be rolled
abbrev pub rolls_group : Transaction → Sheets → Bool
rolls_group t s = any (rolled_at t.number s.lines) (group_at t s)

-- Lines by their keys.

any-or : (p q : Record → Bool) (rs : List Record) → any (λ (r : Record). p r || q r) rs ≡ (any p rs || any q rs)
unfolding any
any-or p q [] = refl
any-or p q (r ∷ rs) = ap (λ (b : Bool). (p r || q r) || b) (any-or p q rs) ∙ moved (p r) (q r) (any p rs) (any q rs)
  where
    moved : (a b c d : Bool) → ((a || b) || (c || d)) ≡ ((a || c) || (b || d))
    moved true b c d = refl
    moved false true true d = refl
    moved false true false d = refl
    moved false false c d = refl

module _ (n : ℕ) where
  -- a line of this key that the number has prepared
  abbrev prepared_at : Key → Record → Bool
  prepared_at k r = prepared_by n r && same_key k r.key

  none_prepared_lem : (k : Key) (rs : List Record) → lists_key k rs ≡ false → any (prepared_at k) rs ≡ false
  none_prepared_lem k rs h = go (any (prepared_at k) rs) refl
    where
      has : (r : Record) → prepared_at k r ≡ true → same_key r.key k ≡ true
      has r g =
          let e : k ≡ r.key = same_key_lem k r.key (and_snd (prepared_by n r) (same_key k r.key) g) in
          ap (λ (j : Key). same_key j k) (sym e) ∙ same_key_refl k

      go : (b : Bool) → any (prepared_at k) rs ≡ b → b ≡ false
      go true e = absurd (true≢false (sym (any_weaken (prepared_at k) (λ (r : Record). same_key r.key k) has rs e) ∙ h))
      go false e = refl

  -- on a sheet in order that is the line of the key
  prepared_line_lem : (k : Key) (rs : List Record) → rising rs ≡ true → any (prepared_at k) rs ≡ prepared_by n (line_of k rs)
  unfolding any line_of prepared_by rising
  prepared_line_lem k [] h = refl
  prepared_line_lem k (r ∷ rs) h = go (same_key r.key k) refl (prepared_line_lem k rs (and_snd (in_order r rs) (rising rs) h))
    where
      alone : same_key r.key k ≡ true → (b : Bool) → lists_key k rs ≡ b → b ≡ false
      alone e true g = absurd (true≢false (sym e ∙ apart r rs k h g))
      alone e false g = refl

      go : (b : Bool) → same_key r.key k ≡ b → any (prepared_at k) rs ≡ prepared_by n (line_of k rs)
          → (prepared_at k r || any (prepared_at k) rs) ≡ prepared_by n (cond b r (line_of k rs))
      go true e i =
          let f : same_key k r.key ≡ true = ap (same_key k) (same_key_lem r.key k e) ∙ same_key_refl k in
          ap₂ (λ (x y : Bool). prepared_by n r && x || y) f (none_prepared_lem k rs (alone e (lists_key k rs) refl))
          ∙ (or-false (prepared_by n r && true) ∙ and-true (prepared_by n r))
      go false e i =
          ap (λ (x : Bool). prepared_by n r && x || any (prepared_at k) rs) (same_key_flip r.key k e)
          ∙ (ap (λ (x : Bool). x || any (prepared_at k) rs) (and-false (prepared_by n r)) ∙ i)

  -- the lines of a group that the number has prepared
  pub rolled_lines : (es : List Entry) (rs : List Record) → rising rs ≡ true → any (is_of n (keys_of es)) rs ≡ any (rolled_at n rs) es
  unfolding any is_of
  rolled_lines [] rs h = none rs
    where
      none : (ls : List Record) → any (is_of n []) ls ≡ false
      none [] = refl
      none (r ∷ ls) = ap₂ ◌||◌ (and-false (prepared_by n r)) (none ls)
  rolled_lines (e ∷ es) rs h =
      each rs ∙ (any-or (prepared_at e.key) (is_of n (keys_of es)) rs ∙ ap₂ ◌||◌ (prepared_line_lem e.key rs h) (rolled_lines es rs h))
    where
      apiece : (a b c : Bool) → (a && (b || c)) ≡ (a && b || a && c)
      apiece true b c = refl
      apiece false b c = refl

      each : (ls : List Record) → any (is_of n (keys_of (e ∷ es))) ls ≡ any (λ (r : Record). prepared_at e.key r || is_of n (keys_of es) r) ls
      each [] = refl
      each (r ∷ ls) = ap₂ ◌||◌ (apiece (prepared_by n r) (same_key e.key r.key) (any (λ (k : Key). same_key k r.key) (keys_of es))) (each ls)

-- The group among the entries in use.
module _ (rs cs : List ℕ) (t : Transaction) where
  -- the entry is of the group, and its line would be rolled
  abbrev pub rolled_in_group : Entry → Bool
  rolled_in_group e = of_group cs t e && rolled_at t.number (records rs) e

  pub group_some : any (of_group cs t) (held t) ≡ not (is_empty (group_at t (sheets_of rs cs)))
  group_some = some_kept (of_group cs t) (held t) ∙ ap (λ (es : List Entry). not (is_empty es)) (sym (group_in_lem rs cs t))

  pub group_rolls : any rolled_in_group (held t) ≡ rolls_group t (sheets_of rs cs)
  group_rolls =
      sym (any-filter (of_group cs t) (rolled_at t.number (records rs)) (held t)) ∙ ap (any (rolled_at t.number (records rs))) (sym (group_in_lem rs cs t))

  -- what is asked of entry i by the index of its line is asked of the entry
  pub rolled_here : (l : Located) (i : ℕ) → Ready rs cs t l → i < t.count
      → (eqb (get_or l.of i 0) t.place && prepared_by t.number (get_or (records rs) (get_or l.indices i 0) no_record)) ≡ rolled_in_group (entry_at t i)
  rolled_here l i ready m =
      ap₂ ◌&&◌ (ready.grouped.own i m)
      (prepared_at_lem t.number (entry_at t i).key (records rs) (get_or l.indices i 0) (ready.indexed.at i m))

-- the lines of accepted bytes are in order
pub in_order_lem : (rs cs : List ℕ) (t : Transaction) (l : Located) → MayStep rs cs t l → rising (records rs) ≡ true
in_order_lem rs cs t l ready = (good_parts (sheets_of rs cs) (lines_good rs cs ready.fit)).order

-- The step table, phase by phase.

module _ (t : Transaction) (s : Sheets) where
  -- the step writes exactly if b
  abbrev Writes : Bool → Step → Type 0
  Writes b x = b ≡ changes x.write s

  abbrev step_at : ℕ → ℕ → Step
  step_at now p =
      by_phase p (open_step t s) (prepare_step t now s) (validate_step t s) (decide_step t s) (withdraw_step t s) (finish_step t s) (undo_step t s)
      (no_step t) (no_step t)

  no_puts : is_empty (puts t) ≡ true → one_phase_allowed t s ≡ false
  unfolding one_phase_allowed group_count scopes
  no_puts e = go (puts t) e
    where
      go : (es : List Entry) → is_empty es ≡ true → (eqb (group_count (units_of s) es) 1 && not (eqb t.serializable 1) && not (holds_lower (units_of s) t)) ≡ false
      go [] h = refl
      go (x ∷ es) h = absurd (true≢false (sym h))

  puts-or-not : (x y : Step) → not (is_empty (group_at t s)) ≡ changes x.write s → false ≡ changes y.write s
      → Writes (puts_group t s) (cond (all (holds s) (group_at t s)) x y)
  puts-or-not x y e f =
      go (all (holds s) (group_at t s))
    where
      go : (b : Bool) → Writes (b && not (is_empty (group_at t s))) (cond b x y)
      go true = e
      go false = f

  pub open_writes : Writes (one_phase_allowed t s && puts_group t s) (open_step t s)
  unfolding open_step open_without_puts one_phase changes
  open_writes =
      choose_by (Writes (one_phase_allowed t s && puts_group t s)) (is_empty (puts t))
      (λ e. ap (λ (b : Bool). b && puts_group t s) (no_puts e)
      ∙ choose_by (Writes false) (is_empty (to_validate (units_of s) t)) (λ f. refl) (λ f. refl))
      (λ e. allowed (one_phase_allowed t s))
    where
      allowed : (b : Bool) → Writes (b && puts_group t s) (cond b (one_phase t s) (to 1 t))
      allowed true = puts-or-not _ _ refl refl
      allowed false = refl

  pub prepare_writes : (now : ℕ) → Writes (puts_group t s) (prepare_step t now s)
  unfolding prepare_step changes
  prepare_writes now = puts-or-not _ _ refl refl

  pub validate_writes : Writes false (validate_step t s)
  unfolding validate_step changes
  validate_writes = choose_by (Writes false) (holds s (get_or (to_validate (units_of s) t) t.place no_entry)) (λ e. refl) (λ e. refl)

  abbrev pub undecided : Bool
  undecided = by_decision (decision t.number s.coordinator) true false false

  pub decide_writes : Writes undecided (decide_step t s)
  unfolding decide_step changes
  decide_writes =
      by_decision_of (Writes undecided) (decision t.number s.coordinator) (λ e. rw e) (λ e. rw e) (λ e. rw e)

  pub withdraw_writes : Writes undecided (withdraw_step t s)
  unfolding withdraw_step changes
  withdraw_writes =
      by_decision_of (Writes undecided) (decision t.number s.coordinator) (λ e. rw e) (λ e. rw e) (λ e. rw e)

  module _ (order : rising s.lines ≡ true) where
    pub finish_writes : Writes (rolls_group t s) (finish_step t s)
    unfolding finish_step changes
    finish_writes = sym (rolled_lines t.number (group_at t s) s.lines order)

    pub undo_writes : Writes (rolls_group t s) (undo_step t s)
    unfolding undo_step changes
    undo_writes = sym (rolled_lines t.number (group_at t s) s.lines order)

  -- The step of a phase by its number; in done, or in no phase, nothing is written.

  pub writes_at : (now : ℕ) (p : ℕ) (b : Bool) → t.phase ≡ p → Writes b (step_at now p) → Writes b (step t now s)
  writes_at now p b e h = h ∙ sym (ap (λ (x : Step). changes x.write s) (step_at_lem t s now p e))

  pub none_writes : (now : ℕ) → Missed 7 t.phase → Writes false (step t now s)
  unfolding changes
  none_writes now m = sym (ap (λ (x : Step). changes x.write s) (step-none t s now m))
