-- Numbered refusals: a call lists its conditions in the order in which they are asked, and the first that holds is the answer.
use Rattle.std.specs.Prelude.{◌&&◌, ◌||◌, ◌∷◌}
use Rattle.std.specs.Prelude.{Result, Ok, Err}
use Rattle.types.specs.declared.Refusal.{Refusal}
use Rattle.types.specs.declared.Refusal.TheVariants.{BadRecords, BadCoordinator, BadTransaction, WrongPhase, BadKey, NoSuchKey, BadColumns, NumbersSpent}
use Rattle.types.specs.declared.Refusal.TheVariants.{EntriesSpent, NotHeld, VersionsSpent, Busy, SheetsDiffer, HasLine, NoSpare, NotBlank}
use Rattle.lists.specs.Basics.{ℕ, suc, eqb, leb, Bool, not, cond, List, [], all, any}

-- a number of document 01's table, and whether its condition holds
pub record Condition : Type 0 where
  pub number : ℕ
  pub holds : Bool

abbrev pub refuse : ℕ → Bool → Condition
refuse n b = record { number = n; holds = b }

-- the number of the first condition that holds, 0 where none does
unfoldable pub refusal_of : List Condition → ℕ
refusal_of [] = 0
refusal_of (c ∷ cs) = cond c.holds c.number (refusal_of cs)

-- the highest number of the table
abbrev pub last_refusal : ℕ
last_refusal = 16

-- The one order in which all calls ask. Document 01: "The lowest number that applies is given"; document 02 has numbers that are asked before lower ones
-- ("13, after 2", "14, after 6"), so that it is the first of this order.
abbrev pub asking_order : List ℕ
asking_order = 1 ∷ 2 ∷ 13 ∷ 3 ∷ 4 ∷ 5 ∷ 6 ∷ 14 ∷ 15 ∷ 16 ∷ 7 ∷ 8 ∷ 9 ∷ 10 ∷ 11 ∷ 12 ∷ []

-- how many numbers of an order come before this one
unfoldable pub count_before : List ℕ → ℕ → ℕ
count_before [] n = 0
count_before (m ∷ ms) n = cond (eqb m n) 0 (suc (count_before ms n))

abbrev pub asked : ℕ → ℕ
asked n = count_before asking_order n

-- a condition of this number holds
abbrev pub applies : ℕ → List Condition → Bool
applies n cs = any (λ (c : Condition). c.holds && eqb c.number n) cs

-- every condition that holds has this number or one that is asked later
abbrev pub none_before : ℕ → List Condition → Bool
none_before n cs = all (λ (c : Condition). not c.holds || leb (asked n) (asked c.number)) cs

abbrev pub none_holds : List Condition → Bool
none_holds cs = all (λ (c : Condition). not c.holds) cs

-- n is the first number of the order that applies, or 0 where none does
abbrev pub first_asked : ℕ → List Condition → Bool
first_asked n cs = cond (eqb n 0) (none_holds cs) (applies n cs && none_before n cs)

-- A refusal of the engine, as its number in the table.
abbrev pub refusal_number : Refusal → ℕ
refusal_number BadRecords = 1
refusal_number BadCoordinator = 2
refusal_number BadTransaction = 3
refusal_number WrongPhase = 4
refusal_number BadKey = 5
refusal_number NoSuchKey = 6
refusal_number BadColumns = 7
refusal_number NumbersSpent = 8
refusal_number EntriesSpent = 9
refusal_number NotHeld = 10
refusal_number VersionsSpent = 11
refusal_number Busy = 12
refusal_number SheetsDiffer = 13
refusal_number HasLine = 14
refusal_number NoSpare = 15
refusal_number NotBlank = 16

-- the number of the refusal that a call gives, 0 where it is accepted
abbrev pub refused_with : {A : Type 0} → Result A Refusal → ℕ
refused_with (Ok a) = 0
refused_with (Err r) = refusal_number r
