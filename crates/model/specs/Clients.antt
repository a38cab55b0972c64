-- Clients that keep their transactions in lists and change these only by calls by place. What they do makes a history of turns, and a legal one whatever they
-- do and in whatever order: crate `clients`. A client is known by its number.
use Rattle.std.specs.Prelude.{◌≡◌, ◌^◌, ◌∷◌, ◌++◌}
use Rattle.lists.specs.Basics.{ℕ, eqb, ltb, Bool, true, false, cond, List, [], replicate}
use Rattle.model.specs.Types.{Key, Transaction, Request}
use Rattle.types.specs.declared.Request.TheVariants as asked
use Rattle.model.specs.Results.{begin, visit, add, remove}
use Rattle.model.specs.Calls.{new_transaction}
use Rattle.model.specs.Operations.{once}
use Rattle.model.specs.CallByPlace.{named, response_at_on, list_after}
use Rattle.model.specs.ByteHistories.{Bytes}
use Rattle.model.specs.Turns.{Turn, single, by_place, turn_after_on, turns_left}

pub data Act : Type 0 where
  -- a client asks something of the transaction at a place of its list
  asks : (client place : ℕ) → Request → Act
  -- a client crashes and has lost its list; it begins again with one of so many unused transactions
  loses : (client size : ℕ) → Act
  -- anyone visits a line
  visits : Key → ℕ → Act
  -- a number is given to someone who keeps no list
  begins : Bool → Act
  -- anyone adds a line, or removes one
  adds : Key → Act
  removes : Key → Act

-- The bytes of both sheets and the list of each client, empty where it has none.
pub record World : Type 0 where
  pub bytes : Bytes
  pub lists : ℕ → List Transaction

-- transactions of number 0, which no call takes: nothing but zeros
abbrev pub unused : ℕ → List Transaction
unused size = replicate size (new_transaction 0 false)

-- no client holds a transaction yet
abbrev pub Unused : (ℕ → List Transaction) → Type 0
Unused lists = (client place : ℕ) → (named (lists client) place).number ≡ 0

-- a client's list replaced
abbrev pub with_list : ℕ → List Transaction → (ℕ → List Transaction) → ℕ → List Transaction
with_list client list lists other = cond (eqb other client) list (lists other)

-- the turns that an act comes to: a crash is none
unfoldable pub turns_in : Act → World → List Turn
turns_in (asks client place q) w = by_place (w.lists client) place q ∷ []
turns_in (loses client size) w = []
turns_in (visits k now) w = single (once (visit k now)) ∷ []
turns_in (begins b) w = single (once (begin b)) ∷ []
turns_in (adds k) w = single (once (add k)) ∷ []
turns_in (removes k) w = single (once (remove k)) ∷ []

unfoldable pub lists_after : Act → World → ℕ → List Transaction
lists_after (asks client place q) w =
    with_list client
    (list_after (w.lists client) place (response_at_on (w.lists client) place q w.bytes.records w.bytes.coordinator))
    w.lists
lists_after (loses client size) w = with_list client (unused size) w.lists
lists_after (visits k now) w = w.lists
lists_after (begins b) w = w.lists
lists_after (adds k) w = w.lists
lists_after (removes k) w = w.lists

unfoldable pub world_after : Act → World → World
world_after a w = record { bytes = turns_left turn_after_on (turns_in a w) w.bytes; lists = lists_after a w }

-- the history that acts make, each in the world as the last one left it
unfoldable pub turns_of : List Act → World → List Turn
turns_of [] w = []
turns_of (a ∷ acts) w = turns_in a w ++ turns_of acts (world_after a w)

-- the clock reading that a request brings, 0 where it brings none
unfoldable pub clock_asked : Request → ℕ
clock_asked (asked.Begin b) = 0
clock_asked (asked.Read k now) = now
clock_asked (asked.Second k now c) = now
clock_asked (asked.Put k c) = 0
clock_asked (asked.Advance now) = now
clock_asked asked.Abort = 0
clock_asked (asked.Visit k now) = now
clock_asked (asked.Close now limit) = now

-- readings of the clock are numbers below 2^32, as every u32 is
unfoldable pub clock_fits : Act → Bool
clock_fits (asks client place q) = ltb (clock_asked q) (2 ^ 32)
clock_fits (loses client size) = true
clock_fits (visits k now) = ltb now (2 ^ 32)
clock_fits (begins b) = true
clock_fits (adds k) = true
clock_fits (removes k) = true
