-- The recovery pass (document 01: closing visits) after a history: "once every line has then been visited at least twice with no other call,
-- undecided ones at clock readings where they have expired".
use Rattle.std.specs.Prelude.{◌≡◌, ◌+◌, ◌%◌, ◌^◌, ◌≤◌, ◌<◌, ◌&&◌, ◌||◌, ◌∷◌}
use Rattle.lists.specs.Basics.{ℕ, Bool, true, not, cond, List, [], all, any, count}
use Rattle.model.specs.Types.{Key, Record}
use Rattle.model.specs.Records.{same_key, line_of, has_line}
use Rattle.model.specs.Coordinator.{is_undecided}
use Rattle.model.specs.Images.{is_prepared, prepared_by}
use Rattle.model.specs.Writes.{Sheets}
use Rattle.model.specs.Visits.{owner_decision, number_expired, owner_expired}
use Rattle.model.specs.Results.{Call, visit}

-- a visit: the key, and "its own reading" of the clock
pub record Visit : Type 0 where
  pub key : Key
  pub clock : ℕ

abbrev pub visit_call : Visit → Call
visit_call v = visit v.key v.clock

-- "a line is undecided while it is PREPARED and its owner's line is `-`"
unfoldable pub line_undecided : Sheets → Record → Bool
line_undecided s r = is_prepared r && is_undecided (owner_decision r s.coordinator)

-- no line is PREPARED
abbrev pub none_prepared : List Record → Bool
none_prepared rs = all (λ (r : Record). not (is_prepared r)) rs

-- how often a key is visited
abbrev pub times_visited : Key → List Visit → ℕ
times_visited k vs = count (λ (v : Visit). same_key v.key k) vs

-- Over any kind of sheets, by what they say and how a call leaves them.
module _ {S : Type 0} (sheets : S → Sheets) (leaves : Call → S → S) where
  -- visits one after another, an undecided line's at a reading at which its owner has expired
  abbrev pub Expiring : List Visit → S → Type 0
  Expiring [] s = Unit {0}
  Expiring (v ∷ vs) s =
      (v.clock < 2 ^ 32)
      × ((line_undecided (sheets s) (line_of v.key (sheets s).lines) ≡ true → owner_expired v.clock (sheets s).lines (line_of v.key (sheets s).lines) ≡ true)
      × Expiring vs (leaves (visit_call v) s))

  pub record Closing (vs : List Visit) (s : S) : Type 0 where
    pub twice : (k : Key) → has_line k (sheets s).lines ≡ true → 2 ≤ times_visited k vs
    pub expiring : Expiring vs s

-- Where there is a recovery pass. Document 02, note 2: "A list that leaves an undecided number whose prepare clocks allow no such reading falls outside demand 3."

-- readings for the numbers: for the owner of each undecided line one at which it has expired
pub record Readings (clocks : ℕ → ℕ) (s : Sheets) : Type 0 where
  pub fits : (n : ℕ) → clocks n < 2 ^ 32
  pub expired : (k : Key) → line_undecided s (line_of k s.lines) ≡ true → owner_expired (clocks (line_of k s.lines).image.txid) s.lines (line_of k s.lines) ≡ true

-- a reading 15000 ticks after the prepare clock of a line
abbrev pub reading_after : Record → ℕ
reading_after r = (r.clock + 15000) % 2 ^ 32

-- the line is of the number, and at its own reading all lines of the number have expired
abbrev pub expires_all : ℕ → List Record → Record → Bool
expires_all n rs r = prepared_by n r && number_expired (reading_after r) rs n

-- some line of the number does that
unfoldable pub expirable : ℕ → List Record → Bool
expirable n rs = any (expires_all n rs) rs

-- each undecided number has such a line: it can be told from the sheets
unfoldable pub leaves_readings : Sheets → Bool
leaves_readings s = all (λ (r : Record). not (line_undecided s r) || expirable r.image.txid s.lines) s.lines

-- the reading of the first such line among the rest, 0 where there is none
unfoldable pub reading_in : List Record → List Record → ℕ → ℕ
reading_in rs [] n = 0
reading_in rs (r ∷ rest) n = cond (expires_all n rs r) (reading_after r) (reading_in rs rest n)

abbrev pub readings_of : Sheets → ℕ → ℕ
readings_of s = reading_in s.lines s.lines
