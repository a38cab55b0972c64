-- What becomes of one record: prepared, committed in one phase, rolled forward or back; and what a visit comes to. Document 01, "Transaction".
use Rattle.std.specs.Prelude.{◌+◌, ◌-◌, ◌%◌, ◌^◌, ◌&&◌}
use Rattle.lists.specs.Basics.{ℕ, eqb, leb, Bool, true, false, not, cond}
use Rattle.model.specs.Types.{Image, Record, State, Before, Decision, Columns, Entry, Recovery, Stays, Forward, Back, Again, Busy}
use Rattle.types.specs.declared.State.TheVariants.{Absent, Committed, Prepared}
use Rattle.types.specs.declared.Before.TheVariants as Was
use Rattle.types.specs.declared.Decision.TheVariants as Decided
use Rattle.model.specs.Records.{by_state, by_before, no_image}

abbrev pub is_absent : Record → Bool
is_absent r = by_state r.state true false false

-- pending: prepared by a transaction, and neither rolled forward nor back
abbrev pub is_prepared : Record → Bool
is_prepared r = by_state r.state false false true

-- pending by the transaction of this number
unfoldable pub prepared_by : ℕ → Record → Bool
prepared_by n r = is_prepared r && eqb r.image.txid n

-- "The condition of an entry: its line isn't PREPARED and has the TxID and version read."
unfoldable pub unchanged : Entry → Record → Bool
unchanged e r =
    not (is_prepared r)
    && eqb r.image.txid e.seen.txid
    && eqb r.image.version e.seen.version

-- the line has the columns read
unfoldable pub same_columns : Entry → Record → Bool
same_columns e r = eqb r.image.column1 e.seen.column1 && eqb r.image.column2 e.seen.column2

-- the columns alone
abbrev pub columns_of : Image → Columns
columns_of m = record { column1 = m.column1; column2 = m.column2 }

-- What an entry does to its line: the columns of its put.
abbrev pub Change : Type 0
Change = Columns

abbrev pub change_of : Entry → Change
change_of e = e.put

-- what a prepared line says is done once it is rolled forward
abbrev pub change_in : Record → Change
change_in r = columns_of r.image

-- the image that a change writes under a number: "version + 1"
abbrev pub written_image : ℕ → Change → Record → Image
written_image n c r =
    record { version = r.image.version + 1; txid = n; column1 = c.column1; column2 = c.column2 }

-- the before state of a line that is prepared; a pending one is not prepared again, so that what is said of it doesn't matter
abbrev pub state_kept : State → Before
state_kept s = by_state s Was.Absent Was.Committed Was.Absent

-- "write its lines PREPARED, old values to the before fields, version + 1, clock = now"
unfoldable pub prepared : ℕ → ℕ → Change → Record → Record
prepared n now c r =
    record { key = r.key; state = Prepared; image = written_image n c r; prior = state_kept r.state; before = r.image; clock = now }

-- one-phase: "write the puts as COMMITTED under this number, version + 1"
unfoldable pub committed : ℕ → Change → Record → Record
committed n c r = record { key = r.key; state = Committed; image = written_image n c r; prior = Was.Nothing; before = no_image; clock = 0 }

-- "Forward: COMMITTED, before fields and clock 0."
unfoldable pub rolled_forward : Record → Record
rolled_forward r = record { key = r.key; state = Committed; image = r.image; prior = Was.Nothing; before = no_image; clock = 0 }

-- the state that a before state gives back; there is none where nothing is before
abbrev pub state_back : Before → State
state_back b = by_before b Absent Absent Committed

-- "Back: the before image", "rolling back follows the before state"
unfoldable pub rolled_back : Record → Record
rolled_back r =
    record { key = r.key; state = state_back r.prior; image = r.before; prior = Was.Nothing; before = no_image; clock = 0 }

-- "the clock minus its prepare clock, modulo 4294967296"
unfoldable pub elapsed : ℕ → ℕ → ℕ
elapsed now clock = (now + (2 ^ 32 - clock)) % 2 ^ 32

-- "A prepared line has expired when [that] is from 15000 to 2147483647."
unfoldable pub line_expired : ℕ → Record → Bool
line_expired now r = leb 15000 (elapsed now r.clock) && leb (elapsed now r.clock) 2147483647

-- a choice by a decision
abbrev pub by_decision {ℓ} : {A : Type ℓ} → Decision → A → A → A → A
by_decision Decided.Undecided u c a = u
by_decision Decided.Committed u c a = c
by_decision Decided.Aborted u c a = a

-- "Visit: a line not PREPARED stays. Owner COMMITTED: forward. Owner ABORTED: back. Undecided and expired: .. again"; not expired: refusal 12.
unfoldable pub recovery : Record → Decision → Bool → Recovery
recovery r owner expired = cond (is_prepared r) (by_decision owner (cond expired Again Busy) Forward Back) Stays

-- a choice by what a visit comes to
abbrev pub by_recovery {ℓ} : {A : Type ℓ} → Recovery → A → A → A → A → A → A
by_recovery Stays s f b g u = s
by_recovery Forward s f b g u = f
by_recovery Back s f b g u = b
by_recovery Again s f b g u = g
by_recovery Busy s f b g u = u
