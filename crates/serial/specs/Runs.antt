-- Serial runs, apart from sheets. The line of a key depends only on those that write it, and a line that is written gets a higher version: so an entry that is
-- no newer than its line stays so, whether or not it has the line's columns, and where it is as the line afterwards the line was not written.
use Rattle.std.specs.Prelude.{◌≡◌, ◌+◌, ◌≤◌, ◌∷◌, ◌⊎◌}
use Rattle.std.proofs.Common.{◌∙◌}
use Rattle.lists.specs.Basics.{refl, sym, ap, ap₂, ℕ, Bool, true, false, cond, List, [], Option, none, some, inl, inr, arith}
use Rattle.lists.specs.Members.{Mem, here, there}
use Rattle.model.specs.Types.{Key, Image, Record, Entry}
use Rattle.model.specs.Images.{is_absent, Change}
use Rattle.model.specs.Transactions.{was_absent}
use Rattle.model.specs.SequentialModel.{overwritten}
use Rattle.recovery.specs.Memory.{put_in}

-- a transaction in the order: its number, and what it held when it got its position
pub record Placing : Type 0 where
  pub number : ℕ
  pub entries : List Entry

-- what it puts for a key
abbrev pub wrote : Key → Placing → Option Change
wrote k p = put_in k p.entries

-- the line of a key once it has run, if it is committed
abbrev pub ran : Bool → Placing → Key → Record → Record
ran b p k r = cond b (overwritten p.number (wrote k p) r) r

-- and once the committed ones of a list have run from the first lines, the last one first
unfoldable pub run_line : (ℕ → Bool) → (Key → Record) → List Placing → Key → Record
run_line c first [] k = first k
run_line c first (p ∷ ps) k = ran (c p.number) p k (run_line c first ps k)

-- One that writes nothing to a key leaves its line, committed or not.

pub overwritten-none : (n : ℕ) (o : Option Change) (r : Record) → o ≡ none → overwritten n o r ≡ r
unfolding overwritten
overwritten-none n o r e = ap (λ (x : Option Change). overwritten n x r) e

pub unwritten : (b : Bool) (p : Placing) (k : Key) (r : Record) → wrote k p ≡ none → ran b p k r ≡ r
unwritten true p k r e = overwritten-none p.number (wrote k p) r e
unwritten false p k r e = refl

-- other committed numbers, if those that differ write nothing to the key
pub run_other : (c c' : ℕ → Bool) (first : Key → Record) (k : Key) (ps : List Placing)
    → ((p : Placing) → Mem p ps → (c' p.number ≡ c p.number) ⊎ (wrote k p ≡ none)) → run_line c' first ps k ≡ run_line c first ps k
unfolding run_line
run_other c c' first k [] h = refl
run_other c c' first k (p ∷ ps) h = go (h p here) (run_other c c' first k ps (λ q m. h q (there m)))
  where
    n : ℕ
    n = p.number

    go : (c' n ≡ c n) ⊎ (wrote k p ≡ none) → run_line c' first ps k ≡ run_line c first ps k → run_line c' first (p ∷ ps) k ≡ run_line c first (p ∷ ps) k
    go (inl e) i = ap₂ (λ (b : Bool) (r : Record). ran b p k r) e i
    go (inr e) i = unwritten (c' n) p k (run_line c' first ps k) e ∙ (i ∙ sym (unwritten (c n) p k (run_line c first ps k) e))

-- What an entry has as first read, beside the line of its key.

-- what a line gives to read, and what an entry has as first read: whether it is absent, and its image
pub record Sight : Type 0 where
  pub absent : Bool
  pub image : Image

abbrev pub sight_in : Record → Sight
sight_in r = record { absent = is_absent r; image = r.image }

abbrev pub sight_of : Entry → Sight
sight_of e = record { absent = was_absent e; image = e.seen }

-- it is the line
abbrev pub Fresh : (Key → Record) → Entry → Type 0
Fresh line e = sight_of e ≡ sight_in (line e.key)

-- it has no higher version
abbrev pub NotAhead : (Key → Record) → Entry → Type 0
NotAhead line e = e.seen.version ≤ (line e.key).image.version

-- and where it has the line's version it is the line, but for columns that a second call may have brought
abbrev pub NoNewer : Bool → (Key → Record) → Entry → Type 0
NoNewer brought line e = NotAhead line e × (e.seen.version ≡ (line e.key).image.version → (was_absent e ≡ is_absent (line e.key)) × (brought ≡ false → e.seen ≡ (line e.key).image))

-- a line that is written has a higher version
overwritten-version : (n : ℕ) (c : Change) (r : Record) → (overwritten n (some c) r).image.version ≡ r.image.version + 1
unfolding overwritten
overwritten-version n c r = refl

module _ (line line' : Key → Record) (e : Entry) (n : ℕ) where
  written-version : (c : Change) → line' e.key ≡ overwritten n (some c) (line e.key)
      → (line' e.key).image.version ≡ (line e.key).image.version + 1
  written-version c l = ap (λ (r : Record). r.image.version) l ∙ overwritten-version n c (line e.key)

  -- no entry becomes newer
  pub no_newer_after : (brought : Bool) (o : Option Change) → line' e.key ≡ overwritten n o (line e.key) → NoNewer brought line e → NoNewer brought line' e
  unfolding overwritten
  no_newer_after brought none l a =
      let v : (line' e.key).image.version ≡ (line e.key).image.version = ap (λ (r : Record). r.image.version) l in
      let f = a.0 in
      (omega (arith, v, f), λ q. let x = a.1 (q ∙ v) in (x.0 ∙ ap is_absent (sym l), λ b. x.1 b ∙ ap (λ (r : Record). r.image) (sym l)))
  no_newer_after brought (some c) l a =
      let v = written-version c l in
      let f = a.0 in
      (omega (arith, v, f), λ q. absurd (omega (arith, v, f, q)))

  -- an entry that is as the line afterwards is of a key that was not written
  pub fresh_unwritten : (o : Option Change) → line' e.key ≡ overwritten n o (line e.key) → NotAhead line e → Fresh line' e → o ≡ none
  fresh_unwritten none l a f = refl
  fresh_unwritten (some c) l a f =
      let v : e.seen.version ≡ (line e.key).image.version + 1 = ap (λ (i : Sight). i.image.version) f ∙ written-version c l in
      absurd (omega (arith, v, a))
