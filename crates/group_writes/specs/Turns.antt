-- The loop over a transaction's entries that changes the lines of its group: what is left to be done makes, on the sheet as it is now, what all of it makes
-- on the sheet as it was. A turn changes the line of one key, which no later entry has.
use Rattle.std.specs.Prelude.{◌≡◌, ◌+◌, ◌*◌, ◌/◌, ◌≤◌, ◌<◌, ◌&&◌, ◌∷◌}
use Rattle.std.proofs.Common.{◌∙◌}
use Rattle.lists.specs.Basics.{refl, sym, ap, ap₂, subst, ℕ, ltb, Bool, true, false, not, cond, true≢false, List}
use Rattle.lists.specs.Basics.{map, length, get_or, not-true, all, filter, and_fst, and_snd, and_both}
use mir.Val.{Val}
use denote.Laws.{Is}
use denote.Struct.Declared.{row}
use Rattle.lists.specs.Pieces.{over}
use Rattle.types.specs.contracts.Transaction.{the_type}
use Rattle.model.specs.Types.{Key, Record, Entry, Transaction}
use Rattle.model.specs.Records.{no_record, records, record_text, records_text, records_accepted}
use Rattle.model.specs.Layouts.{record_bytes}
use Rattle.model.specs.Coordinator.{coordinator_of}
use Rattle.model.specs.Images.{change_of}
use Rattle.model.specs.Transactions.{held}
use Rattle.model.specs.Writes.{lines_after}
use Rattle.model.specs.WellFormed.{distinct_keys}
use Rattle.model.specs.Steps.{group_at}
use Rattle.model.specs.ByteCalls.{sheets_of}
use Rattle.sheet_laws.specs.Records.{sheet_written_read}
use Rattle.call_laws.specs.Keys.{has_key, kept_key}
use Rattle.call_laws.specs.ByIndex.{at_key}
use Rattle.transactions.specs.Held.{PassedTo, entry_at, after, pass-first, pass-here, pass_next, pass_last}
use Rattle.group_writes.specs.declared.changes.Effect.{Effect}
use Rattle.group_writes.specs.Groups.{of_group, group_in, group_in_lem}
use Rattle.group_writes.specs.Changes.{changed, changed_key, written, lines_none, lines-first, at_key_kept, fits, fits_elsewhere, wrote-line}
use Rattle.held_lines.specs.declared.Located.{Located}
use Rattle.held_lines.specs.Located.{line_index, Indexed, Grouped, indexed_kept}

-- what a change of a whole group asks for
pub record MayChange (c : Effect) (rs cs : List ℕ) (t : Transaction) (l : Located) : Type 0 where
  pub accepted : records_accepted rs ≡ true
  pub few : t.count ≤ 8
  pub distinct : distinct_keys (held t) ≡ true
  pub fit : all (fits c t.number (records rs)) (group_at t (sheets_of rs cs)) ≡ true
  pub indexed : Indexed (records rs) t l.indices t.count
  pub grouped : Grouped (coordinator_of cs).units t l

-- what a turn for an entry asks for, if it is of the group
pub record Turn (c : Effect) (n : ℕ) (own : Bool) (e : Entry) (i : ℕ) (rs : List ℕ) : Type 0 where
  pub accepted : records_accepted rs ≡ true
  pub fit : own ≡ true → fits c n (records rs) e ≡ true
  pub there : i ≡ line_index e.key (records rs)

-- the sheet after a turn: the line of the entry's key changed, if the entry is of the group
pub record Turned (c : Effect) (n : ℕ) (own : Bool) (e : Entry) (rs rs' : List ℕ) : Type 0 where
  pub accepted : records_accepted rs' ≡ true
  pub lines : records rs' ≡ cond own (map (at_key e.key (changed c n (change_of e))) (records rs)) (records rs)

module _ (c : Effect) (n : ℕ) (e : Entry) (rs : List ℕ) where
  abbrev left : Bool → List Record
  left own = cond own (map (at_key e.key (changed c n (change_of e))) (records rs)) (records rs)

  pub turned-not : (own : Bool) → records_accepted rs ≡ true → own ≡ false → Turned c n own e rs rs
  turned-not own a h = record { accepted = a; lines = sym (ap left h) }

  pub turned-own : (own : Bool) (i : ℕ) (rs' : List ℕ) → own ≡ true → Turn c n own e i rs → rs' ≡ cond (ltb i (length rs / record_bytes)) (over rs (i * record_bytes) (record_text (changed c n (change_of e) (get_or (records rs) i no_record)))) rs → Turned c n own e rs rs'
  turned-own own i rs' h x w =
      let y = wrote-line c n e i rs (record { accepted = x.accepted; there = x.there; fit = x.fit h }) rs' w in
      record { accepted = y.accepted; lines = y.lines ∙ sym (ap left h) }

-- a key that no entry has is none of those kept
free_kept : (q : Entry → Bool) (k : Key) (es : List Entry) → has_key k es ≡ false → has_key k (filter q es) ≡ false
free_kept q k es h = go (has_key k (filter q es)) refl
  where
    go : (b : Bool) → has_key k (filter q es) ≡ b → b ≡ false
    go false e = refl
    go true e = absurd (true≢false (sym (kept_key q k es e) ∙ h))

module _ (c : Effect) (cs : List ℕ) (t : Transaction) where
  -- the lines that the changes for the group among these entries leave
  abbrev pub leaves : List ℕ → List Entry → List Record
  leaves rs es = lines_after (written c t.number (group_in cs t es)) (records rs)

  -- these entries may be turned one by one
  abbrev may_turn : List ℕ → List Entry → Bool
  may_turn rs es = distinct_keys es && all (fits c t.number (records rs)) (group_in cs t es)

  -- i entries are done, and what is left makes the lines w
  pub record Underway (is : List ℕ) (w : List Record) (rs : List ℕ) (i : ℕ) : Type 0 where
    pub accepted : records_accepted rs ≡ true
    pub lines : PassedTo t (leaves rs) w i
    pub ahead : PassedTo t (may_turn rs) true i
    pub indexed : Indexed (records rs) t is t.count

  pub underway_first : (l : Located) (rs : List ℕ) {vs : List Val} → Is (row the_type) t vs → MayChange c rs cs t l → Underway l.indices (leaves rs (held t)) rs 0
  underway_first l rs p m =
      let f : all (fits c t.number (records rs)) (group_in cs t (held t)) ≡ true = ap (all (fits c t.number (records rs))) (sym (group_in_lem rs cs t)) ∙ m.fit in
      let a = pass-first t (may_turn rs) p m.few in
      record {
        accepted = m.accepted;
        lines = pass-first t (leaves rs) p m.few;
        ahead = record { reached = a.reached; room = a.room; rest = and_both m.distinct f };
        indexed = m.indexed;
      }

  module _ (is : List ℕ) (w : List Record) (rs : List ℕ) (i : ℕ) (u : Underway is w rs i) where
    pub underway_last : t.count ≤ i → rs ≡ records_text w
    unfolding filter
    underway_last l =
        sym (sheet_written_read rs u.accepted)
        ∙ ap records_text (sym (lines_none c t.number (records rs)) ∙ pass_last t (leaves rs) w i l u.lines)

    module _ (l : i < t.count) where
      abbrev e : Entry
      e = entry_at t i

      abbrev es : List Entry
      es = after t i

      here : may_turn rs (e ∷ es) ≡ true
      here = pass-here t (may_turn rs) true i l u.ahead

      here_distinct : distinct_keys (e ∷ es) ≡ true
      here_distinct = and_fst (distinct_keys (e ∷ es)) (all (fits c t.number (records rs)) (group_in cs t (e ∷ es))) here

      here-fits : all (fits c t.number (records rs)) (group_in cs t (e ∷ es)) ≡ true
      here-fits = and_snd (distinct_keys (e ∷ es)) (all (fits c t.number (records rs)) (group_in cs t (e ∷ es))) here

      own : of_group cs t e ≡ true → group_in cs t (e ∷ es) ≡ e ∷ group_in cs t es
      unfolding filter
      own h = ap (λ (b : Bool). cond b (e ∷ group_in cs t es) (group_in cs t es)) h

      other : of_group cs t e ≡ false → group_in cs t (e ∷ es) ≡ group_in cs t es
      unfolding filter
      other h = ap (λ (b : Bool). cond b (e ∷ group_in cs t es) (group_in cs t es)) h

      own-fits : of_group cs t e ≡ true → all (fits c t.number (records rs)) (e ∷ group_in cs t es) ≡ true
      own-fits h = ap (all (fits c t.number (records rs))) (sym (own h)) ∙ here-fits

      -- no later entry of the group has the key
      free : has_key e.key (group_in cs t es) ≡ false
      unfolding distinct_keys
      free = free_kept (of_group cs t) e.key es (not-true (has_key e.key es) (and_fst (not (has_key e.key es)) (distinct_keys es) here_distinct))

      later_distinct : distinct_keys es ≡ true
      unfolding distinct_keys
      later_distinct = and_snd (not (has_key e.key es)) (distinct_keys es) here_distinct

      pub turn-fits : of_group cs t e ≡ true → fits c t.number (records rs) e ≡ true
      unfolding all
      turn-fits h = and_fst (fits c t.number (records rs) e) (all (fits c t.number (records rs)) (group_in cs t es)) (own-fits h)

      pub underway_next : (mine : Bool) (rs' : List ℕ) → mine ≡ of_group cs t e → Turned c t.number mine e rs rs' → Underway is w rs' (i + 1)
      unfolding all
      underway_next mine rs' same x = go (of_group cs t e) refl
        where
          next : leaves rs (e ∷ es) ≡ leaves rs' es → all (fits c t.number (records rs')) (group_in cs t es) ≡ true → Indexed (records rs') t is t.count → Underway is w rs' (i + 1)
          next f g p =
              record {
                accepted = x.accepted;
                lines = pass_next t (leaves rs) (leaves rs') w i l u.lines f;
                ahead = pass_next t (may_turn rs) (may_turn rs') true i l u.ahead (here ∙ sym (and_both later_distinct g));
                indexed = p;
              }

          go : (b : Bool) → of_group cs t e ≡ b → Underway is w rs' (i + 1)
          go true h =
              let m : records rs' ≡ map (at_key e.key (changed c t.number (change_of e))) (records rs) =
              x.lines ∙ ap (λ (b : Bool). cond b (map (at_key e.key (changed c t.number (change_of e))) (records rs)) (records rs)) (same ∙ h) in
              next
              (ap (λ (y : List Entry). lines_after (written c t.number y) (records rs)) (own h)
              ∙ (lines-first c t.number e (group_in cs t es) (records rs) free
              ∙ ap (lines_after (written c t.number (group_in cs t es))) (sym m)))
              (ap (λ (y : List Record). all (fits c t.number y) (group_in cs t es)) m
              ∙ (fits_elsewhere c t.number e (records rs) (group_in cs t es) free
              ∙ and_snd (fits c t.number (records rs) e) (all (fits c t.number (records rs)) (group_in cs t es)) (own-fits h)))
              (subst (λ (y : List Record). Indexed y t is t.count) (sym m)
              (indexed_kept (at_key e.key (changed c t.number (change_of e))) (at_key_kept e.key (changed c t.number (change_of e)) (changed_key c t.number (change_of e))) (records rs) t is t.count u.indexed))
          go false h =
              let m : records rs' ≡ records rs =
              x.lines ∙ ap (λ (b : Bool). cond b (map (at_key e.key (changed c t.number (change_of e))) (records rs)) (records rs)) (same ∙ h) in
              next
              (ap₂ (λ (y : List Entry) (z : List Record). lines_after (written c t.number y) z) (other h) (sym m))
              (ap₂ (λ (z : List Record) (y : List Entry). all (fits c t.number z) y) m (sym (other h)) ∙ here-fits)
              (subst (λ (y : List Record). Indexed y t is t.count) (sym m) u.indexed)
