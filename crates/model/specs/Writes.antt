-- What a call writes, as data: the lines of one group, a line put in or taken out, the coordinator sheet, or nothing. Only `apply` changes sheets.
use Rattle.std.specs.Prelude.{◌+◌, ◌&&◌, ◌∷◌}
use Rattle.lists.specs.Basics.{ℕ, eqb, leb, Bool, false, cond, List, [], map, length, Option, none, some, all, any}
use Rattle.model.specs.Types.{Key, Record, Decision, Entry}
use Rattle.model.specs.Records.{key_less, same_key, absent_at, records_good}
use Rattle.model.specs.Coordinator.{Coordinator, coordinator_good, names_issued, with_decision, with_issued}
use Rattle.model.specs.Images.{change_of, prepared_by, prepared, committed, rolled_forward, rolled_back}

-- both sheets, decoded: the records, how many lines their sheet has, spares included, which no write changes, and the coordinator sheet
pub record Sheets : Type 0 where
  pub lines : List Record
  pub size : ℕ
  pub coordinator : Coordinator

-- 1 to 500 lines, enough for the records
unfoldable pub size_good : Sheets → Bool
size_good s = leb 1 s.size && leb s.size 500 && leb (length s.lines) s.size

-- the sheets that refusals 1 and 2 let pass
unfoldable pub sheets_good : Sheets → Bool
sheets_good s =
    size_good s
    && records_good s.lines
    && coordinator_good s.coordinator
    && all (names_issued s.coordinator.issued) s.lines

pub data Write : Type 0 where
  nothing : Write
  -- one more number
  issue : Write
  -- the decision of a number
  decide : ℕ → Decision → Write
  -- the puts of a group, in one phase, under a number
  commit : ℕ → List Entry → Write
  -- the puts of a group, prepared by a number at a clock reading
  prepare : ℕ → ℕ → List Entry → Write
  -- the lines of these keys that a number has prepared
  forward : ℕ → List Key → Write
  back : ℕ → List Key → Write
  -- a line for this key, and the line of this key taken away
  add_line : Key → Write
  remove_line : Key → Write

-- the entry of a key among those of a group
unfoldable pub entry_for : Key → List Entry → Option Entry
entry_for k [] = none
entry_for k (e ∷ es) = cond (same_key e.key k) (some e) (entry_for k es)

-- what an entry makes of a record, which stays as it is if there is none
abbrev pub by_entry : Option Entry → Record → (Entry → Record) → Record
by_entry none r f = r
by_entry (some e) r f = f e

-- one of the lines of these keys that the number has prepared
unfoldable pub is_of : ℕ → List Key → Record → Bool
is_of n ks r = prepared_by n r && any (λ (k : Key). same_key k r.key) ks

-- "A group's lines are those of its puts only": every other line stays.
unfoldable pub line_after : Write → Record → Record
line_after nothing r = r
line_after issue r = r
line_after (decide n d) r = r
line_after (commit n es) r = by_entry (entry_for r.key es) r (λ (e : Entry). committed n (change_of e) r)
line_after (prepare n now es) r = by_entry (entry_for r.key es) r (λ (e : Entry). prepared n now (change_of e) r)
line_after (forward n ks) r = cond (is_of n ks r) (rolled_forward r) r
line_after (back n ks) r = cond (is_of n ks r) (rolled_back r) r
-- "lines that shift by it don't count as written"
line_after (add_line k) r = r
line_after (remove_line k) r = r

unfoldable pub decisions_after : Write → Coordinator → Coordinator
decisions_after nothing c = c
decisions_after issue c = with_issued (c.issued + 1) c
decisions_after (decide n d) c = with_decision n d c
decisions_after (commit n es) c = c
decisions_after (prepare n now es) c = c
decisions_after (forward n ks) c = c
decisions_after (back n ks) c = c
decisions_after (add_line k) c = c
decisions_after (remove_line k) c = c

-- Document 02, note 6: "Adding puts an ABSENT line in key order", before the first line of a greater key
unfoldable pub inserted : Key → List Record → List Record
inserted k [] = absent_at k ∷ []
inserted k (r ∷ rs) = cond (key_less k r.key) (absent_at k ∷ r ∷ rs) (r ∷ inserted k rs)

-- without the line of k
unfoldable pub without : Key → List Record → List Record
without k [] = []
without k (r ∷ rs) = cond (same_key r.key k) rs (r ∷ without k rs)

-- a line put in or taken out, where the write does that
unfoldable pub shifted : Write → List Record → List Record
shifted nothing rs = rs
shifted issue rs = rs
shifted (decide n d) rs = rs
shifted (commit n es) rs = rs
shifted (prepare n now es) rs = rs
shifted (forward n ks) rs = rs
shifted (back n ks) rs = rs
shifted (add_line k) rs = inserted k rs
shifted (remove_line k) rs = without k rs

unfoldable pub lines_after : Write → List Record → List Record
lines_after w rs = shifted w (map (line_after w) rs)

unfoldable pub apply : Write → Sheets → Sheets
apply w s = record { lines = lines_after w s.lines; size = s.size; coordinator = decisions_after w s.coordinator }

-- the write is the one-phase write of a number
unfoldable pub is_one_phase : ℕ → Write → Bool
is_one_phase n nothing = false
is_one_phase n issue = false
is_one_phase n (decide i d) = false
is_one_phase n (commit i es) = eqb n i
is_one_phase n (prepare i now es) = false
is_one_phase n (forward i ks) = false
is_one_phase n (back i ks) = false
is_one_phase n (add_line k) = false
is_one_phase n (remove_line k) = false
