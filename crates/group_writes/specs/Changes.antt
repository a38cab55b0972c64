-- A group written entry by entry: each change is of the line of one key, and since no two entries have a key in common, one after another they make the map
-- that the model applies. The new line is written over the old one at its index.
use Rattle.std.specs.Prelude.{◌≡◌, ◌*◌, ◌/◌, ◌≤◌, ◌<◌, ◌&&◌, ◌||◌, ◌∷◌}
use Rattle.std.proofs.Common.{◌∙◌}
use Rattle.lists.specs.Basics.{refl, sym, ap, ap₂, ℕ, ltb, Bool, true, false, cond, List, [], map, length, take, drop}
use Rattle.lists.specs.Basics.{get_or, set, Option, none, some, arith, ltb-true, lt-ltb, le-ltb, all, any, choose_by, or_fst, or_snd}
use Rattle.lists.specs.All.{map-map, map_equal, all_always}
use Rattle.lists.specs.Pieces.{over, over-same}
use Rattle.model.specs.Types.{Key, Record, Some, None, Entry}
use Rattle.model.specs.Layouts.{record_bytes}
use Rattle.model.specs.Records.{no_record, record_text, records, records_accepted, good_alone, same_key, found, line_of}
use Rattle.model.specs.Images.{Change, change_of, prepared_by, prepared, committed, rolled_forward, rolled_back}
use Rattle.model.specs.Writes.{Write, commit, prepare, forward, back, entry_for, by_entry, is_of, line_after, lines_after}
use Rattle.model.specs.Steps.{keys_of}
use Rattle.sheet_laws.specs.Records.{good_ranged, record_written_read}
use Rattle.sheet_laws.specs.ByIndex.{whole_lines_lem, length-records, record_at, line_set_lem, records-over}
use Rattle.call_laws.specs.Lines.{shifts, lines_mapped, lines_unmoved}
use Rattle.sheet_laws.specs.Ranks.{accepted_order}
use Rattle.sheet_laws.specs.KeyOrder.{same_key_lem, same_key_refl}
use Rattle.call_laws.specs.Keys.{same_key_flip, has_key, no_entry_lem}
use Rattle.call_laws.specs.ByIndex.{FoundAt, found_at, at_key, map_elsewhere, set-at_key, line-replaced}
use Rattle.held_lines.specs.Located.{line_index, by_line, none-listed}
use Rattle.group_writes.specs.declared.changes.Effect.{Effect}
use Rattle.group_writes.specs.declared.changes.Effect.TheVariants.{Commit, Prepare, Forward, Back}

-- the record that an effect leaves under a number; only what the number has prepared is rolled
unfoldable pub changed : Effect → ℕ → Change → Record → Record
changed Commit n x r = committed n x r
changed (Prepare now) n x r = prepared n now x r
changed Forward n x r = cond (prepared_by n r) (rolled_forward r) r
changed Back n x r = cond (prepared_by n r) (rolled_back r) r

-- the changes for a group's entries, as the model's write
unfoldable pub written : Effect → ℕ → List Entry → Write
written Commit n es = commit n es
written (Prepare now) n es = prepare n now es
written Forward n es = forward n (keys_of es)
written Back n es = back n (keys_of es)

-- a change keeps the key
pub changed_key : (c : Effect) (n : ℕ) (x : Change) (r : Record) → (changed c n x r).key ≡ r.key
unfolding changed committed prepared rolled_forward rolled_back
changed_key Commit n x r = refl
changed_key (Prepare now) n x r = refl
changed_key Forward n x r = choose_by (λ (y : Record). y.key ≡ r.key) (prepared_by n r) (λ h. refl) (λ h. refl)
changed_key Back n x r = choose_by (λ (y : Record). y.key ≡ r.key) (prepared_by n r) (λ h. refl) (λ h. refl)

-- Each line by the entry of its key.

-- a line that is rolled if an entry has its key
rolled_by_entry : (b : Bool) (x r : Record) (k : Key) (es : List Entry) → cond (b && any (λ (j : Key). same_key j k) (keys_of es)) x r ≡ by_entry (entry_for k es) r (λ (e : Entry). cond b x r)
unfolding any entry_for
rolled_by_entry true x r k [] = refl
rolled_by_entry false x r k [] = refl
rolled_by_entry b x r k (e ∷ es) = go (same_key e.key k) b (rolled_by_entry b x r k es)
  where
    go : (h c : Bool) → cond (c && any (λ (j : Key). same_key j k) (keys_of es)) x r ≡ by_entry (entry_for k es) r (λ (e : Entry). cond c x r) → cond (c && (h || any (λ (j : Key). same_key j k) (keys_of es))) x r ≡ by_entry (cond h (some e) (entry_for k es)) r (λ (e : Entry). cond c x r)
    go true true i = refl
    go true false i = refl
    go false c i = i

module _ (c : Effect) (n : ℕ) where
  -- what the changes for these entries make of a record
  abbrev by_key : List Entry → Record → Record
  by_key es r = by_entry (entry_for r.key es) r (λ (e : Entry). changed c n (change_of e) r)

  -- one more entry, of a key that no other has: its change first
  one-first : (e : Entry) (es : List Entry) (r : Record) → has_key e.key es ≡ false → by_key (e ∷ es) r ≡ by_key es (at_key e.key (changed c n (change_of e)) r)
  unfolding entry_for
  one-first e es r free = go (same_key r.key e.key) refl
    where
      go : (b : Bool) → same_key r.key e.key ≡ b → by_key (e ∷ es) r ≡ by_key es (at_key e.key (changed c n (change_of e)) r)
      go true h =
          let k : r.key ≡ e.key = same_key_lem r.key e.key h in
          let a : same_key e.key r.key ≡ true = ap (same_key e.key) k ∙ same_key_refl e.key in
          let o : entry_for (changed c n (change_of e) r).key es ≡ none = ap (λ (j : Key). entry_for j es) (changed_key c n (change_of e) r ∙ k) ∙ no_entry_lem e.key es free in
          ap (λ (b : Bool). by_entry (cond b (some e) (entry_for r.key es)) r (λ (x : Entry). changed c n (change_of x) r)) a
          ∙ sym
          (ap (λ (b : Bool). by_key es (cond b (changed c n (change_of e) r) r)) h
          ∙ ap (λ (p : Option Entry). by_entry p (changed c n (change_of e) r) (λ (x : Entry). changed c n (change_of x) (changed c n (change_of e) r))) o)
      go false h =
          let a : same_key e.key r.key ≡ false = same_key_flip r.key e.key h in
          ap (λ (b : Bool). by_entry (cond b (some e) (entry_for r.key es)) r (λ (x : Entry). changed c n (change_of x) r)) a
          ∙ sym (ap (λ (b : Bool). by_key es (cond b (changed c n (change_of e) r) r)) h)

by_key_lem : (c : Effect) (n : ℕ) (es : List Entry) (r : Record) → line_after (written c n es) r ≡ by_key c n es r
unfolding line_after written changed is_of
by_key_lem Commit n es r = refl
by_key_lem (Prepare now) n es r = refl
by_key_lem Forward n es r = rolled_by_entry (prepared_by n r) (rolled_forward r) r r.key es
by_key_lem Back n es r = rolled_by_entry (prepared_by n r) (rolled_back r) r r.key es

-- no line shifts
group_calm : (c : Effect) (n : ℕ) (es : List Entry) → shifts (written c n es) ≡ false
unfolding written
group_calm Commit n es = refl
group_calm (Prepare now) n es = refl
group_calm Forward n es = refl
group_calm Back n es = refl

-- Lines under the changes for a group's entries.
module _ (c : Effect) (n : ℕ) where
  -- they go line by line
  pub group_mapped : (es : List Entry) (rs : List Record) → lines_after (written c n es) rs ≡ map (line_after (written c n es)) rs
  group_mapped es rs = lines_mapped (written c n es) rs (group_calm c n es)

  pub lines_none : (rs : List Record) → lines_after (written c n []) rs ≡ rs
  unfolding entry_for
  lines_none rs = lines_unmoved (written c n []) (group_calm c n []) (λ r. by_key_lem c n [] r) rs

  pub lines-first : (e : Entry) (es : List Entry) (rs : List Record) → has_key e.key es ≡ false → lines_after (written c n (e ∷ es)) rs ≡ lines_after (written c n es) (map (at_key e.key (changed c n (change_of e))) rs)
  lines-first e es rs free =
      group_mapped (e ∷ es) rs
      ∙ map_equal (λ (r : Record). true) (line_after (written c n (e ∷ es))) (λ (r : Record). line_after (written c n es) (at_key e.key (changed c n (change_of e)) r))
      (λ r h. by_key_lem c n (e ∷ es) r ∙ (one-first c n e es r free ∙ sym (by_key_lem c n es (at_key e.key (changed c n (change_of e)) r))))
      rs (all_always rs)
      ∙ (sym (map-map (line_after (written c n es)) (at_key e.key (changed c n (change_of e))) rs)
      ∙ sym (group_mapped es (map (at_key e.key (changed c n (change_of e))) rs)))

  -- the new line of the entry's key keeps the rules
  abbrev pub fits : List Record → Entry → Bool
  fits rs e = good_alone (changed c n (change_of e) (line_of e.key rs))

-- The line of another key.
module _ (k : Key) (f : Record → Record) (kept : (r : Record) → (f r).key ≡ r.key) where
  pub at_key_kept : (r : Record) → (at_key k f r).key ≡ r.key
  at_key_kept r = choose_by (λ (x : Record). x.key ≡ r.key) (same_key r.key k) (λ h. kept r) (λ h. refl)

  line_elsewhere : (j : Key) (rs : List Record) → same_key j k ≡ false → line_of j (map (at_key k f) rs) ≡ line_of j rs
  unfolding line_of
  line_elsewhere j [] d = refl
  line_elsewhere j (r ∷ rs) d =
      ap (λ (i : Key). cond (same_key i j) (at_key k f r) (line_of j (map (at_key k f) rs))) (at_key_kept r) ∙ go (same_key r.key j) refl (line_elsewhere j rs d)
    where
      go : (b : Bool) → same_key r.key j ≡ b → line_of j (map (at_key k f) rs) ≡ line_of j rs → cond b (at_key k f r) (line_of j (map (at_key k f) rs)) ≡ cond b r (line_of j rs)
      go true h i = ap (λ (x : Bool). cond x (f r) r) (ap (λ (x : Key). same_key x k) (same_key_lem r.key j h) ∙ d)
      go false h i = i

-- what fits the lines fits them when the line of another key has changed
pub fits_elsewhere : (c : Effect) (n : ℕ) (e : Entry) (rs : List Record) (es : List Entry) → has_key e.key es ≡ false → all (fits c n (map (at_key e.key (changed c n (change_of e))) rs)) es ≡ all (fits c n rs) es
unfolding all any
fits_elsewhere c n e rs [] h = refl
fits_elsewhere c n e rs (x ∷ es) h =
    ap₂ ◌&&◌
    (ap (λ (r : Record). good_alone (changed c n (change_of x) r))
    (line_elsewhere e.key (changed c n (change_of e)) (changed_key c n (change_of e)) x.key rs (or_fst (same_key x.key e.key) (has_key e.key es) h)))
    (fits_elsewhere c n e rs es (or_snd (same_key x.key e.key) (has_key e.key es) h))

-- One line.

-- the sheet is accepted, and the new line of the entry's key, at its index if it has one, keeps the rules
pub record Due (c : Effect) (n : ℕ) (e : Entry) (i : ℕ) (rs : List ℕ) : Type 0 where
  pub accepted : records_accepted rs ≡ true
  pub there : i ≡ line_index e.key (records rs)
  pub fit : fits c n (records rs) e ≡ true

-- the sheet after a change of the line of the entry's key
pub record Wrote (c : Effect) (n : ℕ) (e : Entry) (rs rs' : List ℕ) : Type 0 where
  pub accepted : records_accepted rs' ≡ true
  pub lines : records rs' ≡ map (at_key e.key (changed c n (change_of e))) (records rs)

module _ (c : Effect) (n : ℕ) (e : Entry) (i : ℕ) (rs : List ℕ) (due : Due c n e i rs) where
  abbrev over_line : List ℕ
  over_line = cond (ltb i (length rs / record_bytes)) (over rs (i * record_bytes) (record_text (changed c n (change_of e) (get_or (records rs) i no_record)))) rs

  wrote-there : found e.key (records rs) ≡ Some i → (rs' : List ℕ) → rs' ≡ over_line → Wrote c n e rs rs'
  wrote-there there rs' w =
      let r = changed c n (change_of e) (get_or (records rs) i no_record) in
      let x : FoundAt e.key (records rs) i = found_at e.key (records rs) i there in
      let l : i < length (records rs) = x.within in
      let m : i < length rs / record_bytes = omega (arith, length-records rs) in
      let g : good_alone r ≡ true = ap (λ (y : Record). good_alone (changed c n (change_of e) y)) x.line ∙ due.fit in
      let k : r.key ≡ (get_or (records rs) i no_record).key = changed_key c n (change_of e) (get_or (records rs) i no_record) in
      let o : rs' ≡ over rs (i * record_bytes) (record_text r) = w ∙ ap (λ (b : Bool). cond b (over rs (i * record_bytes) (record_text r)) rs) (lt-ltb i (length rs / record_bytes) m) in
      let p : r ≡ changed c n (change_of e) (line_of e.key (records rs)) = ap (changed c n (change_of e)) x.line in
      record {
        accepted = ap records_accepted o ∙ (line-replaced rs i r due.accepted l g k).1;
        lines =
            ap records o
            ∙ (records-over rs i r m (good_ranged r g) (whole_lines_lem rs due.accepted)
            ∙ (ap (set (records rs) i) p ∙ set-at_key e.key (changed c n (change_of e)) (records rs) i (accepted_order rs due.accepted) l x.key));
      }

  -- a key without a line: nothing is written
  wrote_none : found e.key (records rs) ≡ None → i ≡ length (records rs) → (rs' : List ℕ) → rs' ≡ over_line → Wrote c n e rs rs'
  wrote_none missing q rs' w =
      let r = changed c n (change_of e) (get_or (records rs) i no_record) in
      let l : length rs / record_bytes ≤ i = omega (arith, length-records rs, q) in
      let o : rs' ≡ rs = w ∙ ap (λ (b : Bool). cond b (over rs (i * record_bytes) (record_text r)) rs) (le-ltb i (length rs / record_bytes) l) in
      record {
        accepted = ap records_accepted o ∙ due.accepted;
        lines = ap records o ∙ sym (map_elsewhere e.key (changed c n (change_of e)) (records rs) (none-listed e.key (records rs) missing));
      }

  pub wrote-line : (rs' : List ℕ) → rs' ≡ over_line → Wrote c n e rs rs'
  wrote-line rs' w =
      by_line e.key (records rs) (λ (j : ℕ). i ≡ j → Wrote c n e rs rs') (λ j f q. wrote-there (f ∙ ap Some (sym q)) rs' w)
      (λ f q. wrote_none f q rs' w) due.there

-- a line that stays is its own text
pub line_stays : (rs : List ℕ) (i : ℕ) → records_accepted rs ≡ true → rs ≡ cond (ltb i (length rs / record_bytes)) (over rs (i * record_bytes) (record_text (get_or (records rs) i no_record))) rs
line_stays rs i a =
    choose_by (λ (x : List ℕ). rs ≡ x) (ltb i (length rs / record_bytes))
    (λ h. let l : i < length rs / record_bytes = ltb-true i (length rs / record_bytes) h in
    sym (ap (over rs (i * record_bytes)) (ap record_text (record_at rs i l) ∙ record_written_read (take record_bytes (drop (i * record_bytes) rs)) (line_set_lem rs i a l)) ∙ over-same rs (i * record_bytes) record_bytes (omega arith)))
    (λ h. refl)
