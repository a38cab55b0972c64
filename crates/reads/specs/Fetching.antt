-- Read, either call, case by case in the order of its conditions: a held key, and a new one by the case of its letter and by what the visit of its line comes to.
use Rattle.std.specs.Prelude.{◌≡◌, ◌≤◌, ◌<◌, ◌&&◌, ◌∷◌, ◌++◌, Option, Result as Either, Ok, Err}
use Rattle.std.proofs.Common.{◌∙◌}
use Rattle.lists.specs.Basics.{refl, sym, ap, subst, ℕ, leb, Bool, true, false, not, List, [], length, take, drop, arith, le-leb, lt-leb, all}
use Rattle.lists.specs.Basics.{cond}
use Rattle.model.specs.Types.{Key, Image, Record, Some, None, Columns, Entry, Transaction, Reading, Recovery, Stays, Forward, Back, Again, Busy}
use Rattle.types.specs.declared.Reading.TheVariants.{Again as Read-again, First as Read-first}
use Rattle.model.specs.Records.{records, found, is_missing, has_line, line_of}
use Rattle.model.specs.Refusals.{Condition, refuse, refusal_of}
use Rattle.model.specs.Coordinator.{Letter}
use Rattle.model.specs.Groups.{letter_for, is_lower}
use Rattle.model.specs.Transactions.{held_at, reading, entry_as}
use Rattle.model.specs.Images.{is_absent, by_recovery, columns_of, rolled_forward, rolled_back}
use Rattle.model.specs.WellFormed.{columns_in_range}
use Rattle.model.specs.Writes.{Sheets, nothing}
use Rattle.model.specs.Visits.{meeting, is_busy, is_again, recovered}
use Rattle.model.specs.Results.{Call, read, second, Answer, answered, Result, refused, made, unless}
use Rattle.model.specs.Conditions.{is_new, takes_two, busy, conditions}
use Rattle.model.specs.Steps.{units_of}
use Rattle.model.specs.Calls.{holding, read_new, seen_second, whole_read, outcome, result_of}
use Rattle.model.specs.ByteCalls.{sheets_of}
use Rattle.sheet_laws.specs.Decisions.{readable_length}
use Rattle.transactions.specs.Held.{entry_at}
use Rattle.transactions.specs.Units.{units_in, units-said}
use Rattle.call_laws.specs.ByIndex.{found_at}
use Rattle.call_laws.specs.Accepted.{Outcome, outcome_refused, outcome_made, Accepted, written_nothing, unless-front, unless_past}
use Rattle.recover.specs.Recovering.{line_at, Standing, standing, Recovered, recovered-line, unless_busy, outcome-met}
use Rattle.admission.specs.Admission.{admitting_open, opened}
use Rattle.answers.specs.declared.Read.{Read}
use Rattle.answers.specs.Answers.{to_read}

-- the call that is made: the second takes columns
abbrev pub call_of : Option Columns → Transaction → Key → ℕ → Call
call_of None t k now = read t k now
call_of (Some c) t k now = second t k now c

-- what is seen of a record: the columns handed in, where there are some
abbrev pub seen_with : Option Columns → Record → Image
seen_with None r = r.image
seen_with (Some c) r = seen_second true c r

-- the entry of a record as it is read, under a key; it may see columns handed in
abbrev pub entry_seen : Option Columns → Key → Record → Entry
entry_seen handed k r = entry_as k (is_absent r) (seen_with handed r)

-- what was read, with the transaction as it now is
abbrev pub read_as : Reading → Transaction → Read
read_as v t = record { value = v; transaction = t }

-- the read of a record that is then held so
abbrev pub fetched_held : Entry → Transaction → Read
fetched_held e t = read_as (reading e) (holding e t)

-- the read of a record as its visit leaves it, by what the visit came to: refused with 12 where the line is busy
abbrev pub fetched_met : Recovery → Entry → Transaction → Either Read ℕ
fetched_met v e t = by_recovery v (Ok (fetched_held e t)) (Ok (fetched_held e t)) (Ok (fetched_held e t)) (Ok (read_as Read-again t)) (Err 12)

-- what a read of a new key answers, by what the visit of its line comes to
abbrev read_met : Recovery → Entry → Transaction → Answer
read_met v e t = cond (is_again v) (answered Read-again t) (answered (reading e) (holding e t))

met_new : (t : Transaction) (v : Recovery) (r : Record) (b : Bool) (m : Image) → unless (refuse 12 (is_busy v) ∷ []) (read_new t v r b m) ≡ unless_busy v (read_met v (entry_as r.key b m) t) r
unfolding read_new refusal_of
met_new t Stays r b m = refl
met_new t Forward r b m = refl
met_new t Back r b m = refl
met_new t Again r b m = refl
met_new t Busy r b m = refl

met_fetched : (v : Recovery) (r : Record) (e : Entry) (t : Transaction) → fetched_met v e t ≡ to_read t (unless_busy v (read_met v e t) r)
met_fetched Stays r e t = refl
met_fetched Forward r e t = refl
met_fetched Back r e t = refl
met_fetched Again r e t = refl
met_fetched Busy r e t = refl

-- what is asked of either call for a key that has a line
abbrev line_conditions : Option Columns → Transaction → Key → ℕ → Sheets → List Condition
line_conditions None t k now s =
    refuse 9 (is_new k t && leb 8 t.count) ∷ refuse 12 (is_new k t && not (is_lower (units_of s) k) && busy k now s) ∷ []
line_conditions (Some c) t k now s =
    refuse 7 (takes_two (units_of s) k t && not (columns_in_range c))
    ∷ refuse 9 (is_new k t && leb 8 t.count)
    ∷ refuse 12 (is_new k t && busy k now s)
    ∷ []

module _ (q : Option Columns) (t : Transaction) (k : Key) (now : ℕ) (s : Sheets) where
  abbrev rest : List Condition
  rest = refuse 6 (not (has_line k s.lines)) ∷ line_conditions q t k now s

  in_order_lem : result_of (call_of q t k now) s ≡ unless (admitting_open t k s ++ rest) (outcome (call_of q t k now) s)
  in_order_lem = go q
    where
      go : (q : Option Columns) → result_of (call_of q t k now) s ≡ unless (admitting_open t k s ++ (refuse 6 (not (has_line k s.lines)) ∷ line_conditions q t k now s)) (outcome (call_of q t k now) s)
      go None = unfold result_of conditions admitting_open in refl
      go (Some c) = unfold result_of conditions admitting_open in refl

  pub fetch_away : (n : ℕ) → n ≡ refusal_of (admitting_open t k s) → (n ≡ 0 → ⊥) → result_of (call_of q t k now) s ≡ refused n
  fetch_away n e z = in_order_lem ∙ unless-front (admitting_open t k s) rest (outcome (call_of q t k now) s) n e z

  module _ (free : refusal_of (admitting_open t k s) ≡ 0) where
    fetch_rest : result_of (call_of q t k now) s ≡ unless rest (outcome (call_of q t k now) s)
    unfolding admitting_open all
    fetch_rest = in_order_lem ∙ unless_past (admitting_open t k s) rest (outcome (call_of q t k now) s) refl free

    pub fetch_none : found k s.lines ≡ None → result_of (call_of q t k now) s ≡ refused 6
    unfolding refusal_of is_missing
    fetch_none e = fetch_rest ∙ rw e

-- A key that has a line.
pub record ReadAt (t : Transaction) (k : Key) (rs cs : List ℕ) (i : ℕ) : Type 0 where
  pub accepted : Accepted rs cs
  pub free : refusal_of (admitting_open t k (sheets_of rs cs)) ≡ 0
  pub index : found k (records rs) ≡ Some i

module _ (t : Transaction) (k : Key) (now : ℕ) (rs cs : List ℕ) (i : ℕ) (a : ReadAt t k rs cs i) where
  pub read_few : t.count ≤ 8
  read_few = (opened t k (sheets_of rs cs) a.free).few

  fetch_has : (q : Option Columns) → result_of (call_of q t k now) (sheets_of rs cs) ≡ unless (line_conditions q t k now (sheets_of rs cs)) (outcome (call_of q t k now) (sheets_of rs cs))
  unfolding refusal_of is_missing
  fetch_has q = fetch_rest q t k now (sheets_of rs cs) a.free ∙ rw a.index

  held_made : (q : Option Columns) (j : ℕ) → held_at k t ≡ Some j → result_of (call_of q t k now) (sheets_of rs cs) ≡ made (answered (reading (entry_at t j)) t) nothing
  held_made None j e = fetch_has None ∙ unfold outcome whole_read is_missing refusal_of in rw e
  held_made (Some c) j e = fetch_has (Some c) ∙ unfold outcome whole_read is_missing refusal_of in rw e

  pub read_held_lem : (q : Option Columns) (j : ℕ) → held_at k t ≡ Some j → {answer : Either Read ℕ} → answer ≡ Ok (read_as (reading (entry_at t j)) t) → Outcome (to_read t) (result_of (call_of q t k now) (sheets_of rs cs)) rs cs answer rs cs
  read_held_lem q j e b =
      outcome_made (to_read t) rs cs (answered (reading (entry_at t j)) t) nothing (held_made q j e) b (written_nothing rs cs a.accepted)

-- A new key, the one of line i.
pub record NewRead (t : Transaction) (rs cs : List ℕ) (i : ℕ) : Type 0 where
  pub line : ReadAt t (line_at rs i).key rs cs i
  pub new : is_new (line_at rs i).key t ≡ true

pub new_read_lem : (t : Transaction) (k : Key) (rs cs : List ℕ) (i : ℕ) → ReadAt t k rs cs i → held_at k t ≡ None → NewRead t rs cs i
unfolding is_missing
new_read_lem t k rs cs i a e =
    let f : (line_at rs i).key ≡ k = (found_at k (records rs) i a.index).key in
    record { line = subst (λ (x : Key). ReadAt t x rs cs i) (sym f) a; new = ap (λ (x : Key). is_new x t) f ∙ ap is_missing e }

-- the read of a new key is that of the key of its line
pub read_found : (q : Option Columns) (t : Transaction) (k : Key) (now : ℕ) (rs cs : List ℕ) (i : ℕ) {answer : Either Read ℕ} {rs' cs' : List ℕ} → ReadAt t k rs cs i → Outcome (to_read t) (result_of (call_of q t (line_at rs i).key now) (sheets_of rs cs)) rs cs answer rs' cs' → Outcome (to_read t) (result_of (call_of q t k now) (sheets_of rs cs)) rs cs answer rs' cs'
read_found q t k now rs cs i {answer} {rs'} {cs'} a h =
    subst (λ (x : Key). Outcome (to_read t) (result_of (call_of q t x now) (sheets_of rs cs)) rs cs answer rs' cs') (found_at k (records rs) i a.index).key h

-- an outcome of the call that is made
pub asked_as : (t : Transaction) (k : Key) (now : ℕ) (rs cs : List ℕ) {q q' : Option Columns} {answer : Either Read ℕ} {rs' cs' : List ℕ} → q ≡ q'
    → Outcome (to_read t) (result_of (call_of q' t k now) (sheets_of rs cs)) rs cs answer rs' cs' → Outcome (to_read t) (result_of (call_of q t k now) (sheets_of rs cs)) rs cs answer rs' cs'
asked_as t k now rs cs {answer = answer} {rs' = rs'} {cs' = cs'} e h =
    subst (λ (x : Option Columns). Outcome (to_read t) (result_of (call_of x t k now) (sheets_of rs cs)) rs cs answer rs' cs') (sym e) h

-- the whole read of a new key, which may see columns handed in
unfoldable pub new_read : Option Columns → Transaction → Key → ℕ → Sheets → Result Answer
new_read handed t k now s =
    unless (refuse 9 (leb 8 t.count) ∷ refuse 12 (busy k now s) ∷ [])
    (read_new t (meeting now s (line_of k s.lines)) (line_of k s.lines) (is_absent (recovered (meeting now s (line_of k s.lines)) (line_of k s.lines))) (seen_with handed (recovered (meeting now s (line_of k s.lines)) (line_of k s.lines))))

-- what the first of two calls answers
abbrev pub first_of : Transaction → Record → Either Read ℕ
first_of t r = cond (leb 8 t.count) (Err 9) (Ok (read_as (Read-first (columns_of r.image)) t))

module _ (t : Transaction) (now : ℕ) (rs cs : List ℕ) (i : ℕ) (a : NewRead t rs cs i) where
  abbrev here : Record
  here = line_at rs i

  abbrev s : Sheets
  s = sheets_of rs cs

  abbrev lower : Bool
  lower = is_lower (units_of s) here.key

  pub has_letters : 14 ≤ length cs
  has_letters = omega (arith, readable_length cs a.line.accepted.decisions)

  -- the case of the letter by the bytes of the head, of a record that is line i
  pub letter_case : (r : Record) (b : Bool) → r ≡ here → b ≡ (letter_for r.key.storage (units_in (take 9 (drop 5 cs)))).lower → b ≡ lower
  letter_case r b f e =
      e
      ∙ (ap (λ (x : Record). (letter_for x.key.storage (units_in (take 9 (drop 5 cs)))).lower) f
      ∙ ap (λ (ls : List Letter). is_lower ls here.key) (units-said cs a.line.accepted.decisions))

  pub read_standing : Standing rs cs i
  read_standing = standing rs cs here.key i a.line.accepted a.line.index

  -- Which way either call goes: where the letter is a capital the read takes one call, and either is the whole read; else a first call answers the columns that it sees,
  -- and a second one is the whole read with the columns handed in.

  whole-one : (q : Option Columns) → lower ≡ false → new_read None t here.key now s ≡ result_of (call_of q t here.key now) s
  whole-one None e = sym (fetch_has t here.key now rs cs i a.line None ∙ unfold outcome whole_read new_read refusal_of in rw (a.new, e))
  whole-one (Some c) e = sym (fetch_has t here.key now rs cs i a.line (Some c) ∙ unfold outcome whole_read new_read seen_second refusal_of in rw (a.new, e))

  pub goes_whole : (q : Option Columns) → lower ≡ false → {answer : Either Read ℕ} {rs' cs' : List ℕ} → Outcome (to_read t) (new_read None t here.key now s) rs cs answer rs' cs' → Outcome (to_read t) (result_of (call_of q t here.key now) s) rs cs answer rs' cs'
  goes_whole q e {answer} {rs'} {cs'} h = subst (λ (r : Result Answer). Outcome (to_read t) r rs cs answer rs' cs') (whole-one q e) h

  pub goes_first : lower ≡ true → {answer : Either Read ℕ} → answer ≡ first_of t here → Outcome (to_read t) (result_of (call_of None t here.key now) s) rs cs answer rs cs
  goes_first e {answer} b = go (leb 8 t.count) refl
    where
      go : (x : Bool) → leb 8 t.count ≡ x → Outcome (to_read t) (result_of (call_of None t here.key now) s) rs cs answer rs cs
      go true f =
          outcome_refused (to_read t) rs cs 9 (fetch_has t here.key now rs cs i a.line None ∙ unfold refusal_of in rw (a.new, e, f)) (b ∙ rw f)
      go false f =
          outcome_made (to_read t) rs cs (answered (Read-first (columns_of here.image)) t) nothing
          (fetch_has t here.key now rs cs i a.line None
          ∙ unfold outcome refusal_of in rw (a.new, e, f, ← read_standing.index.line))
          (b ∙ rw f) (written_nothing rs cs a.line.accepted)

  pub goes_large : (c : Columns) → lower ≡ true → columns_in_range c ≡ false → result_of (call_of (Some c) t here.key now) s ≡ refused 7
  goes_large c e f = fetch_has t here.key now rs cs i a.line (Some c) ∙ unfold refusal_of in rw (a.new, e, f)

  whole-second : (c : Columns) → lower ≡ true → columns_in_range c ≡ true → new_read (Some c) t here.key now s ≡ result_of (call_of (Some c) t here.key now) s
  whole-second c e f =
      sym (fetch_has t here.key now rs cs i a.line (Some c) ∙ unfold outcome whole_read new_read refusal_of in rw (a.new, e, f))

  pub goes_whole_second : (c : Columns) → lower ≡ true → columns_in_range c ≡ true → {answer : Either Read ℕ} {rs' cs' : List ℕ} → Outcome (to_read t) (new_read (Some c) t here.key now s) rs cs answer rs' cs' → Outcome (to_read t) (result_of (call_of (Some c) t here.key now) s) rs cs answer rs' cs'
  goes_whole_second c e f {answer} {rs'} {cs'} h = subst (λ (r : Result Answer). Outcome (to_read t) r rs cs answer rs' cs') (whole-second c e f) h

  -- The whole read.

  pub read_full : (h : Option Columns) → 8 ≤ t.count → new_read h t here.key now s ≡ refused 9
  unfolding new_read refusal_of
  read_full h g = rw (le-leb 8 t.count g)

  abbrev sees : Option Columns → Recovery → Entry
  sees h v = entry_seen h here.key (recovered v here)

  read_met_lem : (h : Option Columns) → t.count < 8 → new_read h t here.key now s ≡ unless_busy (meeting now s here) (read_met (meeting now s here) (sees h (meeting now s here)) t) here
  unfolding new_read refusal_of
  read_met_lem h g =
      let n : leb 8 t.count ≡ false = lt-leb 8 t.count g in
      let r = line_of here.key (records rs) in
      rw n (met_new t (meeting now s r) r (is_absent (recovered (meeting now s r) r)) (seen_with h (recovered (meeting now s r) r)))
      ∙ ap (λ (x : Record). unless_busy (meeting now s x) (read_met (meeting now s x) (entry_seen h x.key (recovered (meeting now s x) x)) t) x) (sym read_standing.index.line)

  -- the record is that of line i after the visit
  pub read_outcome : (h : Option Columns) (v : Recovery) (r : Record) (x : Entry) {answer : Either Read ℕ} {rs' cs' : List ℕ} → t.count < 8 → Recovered now i rs cs v rs' cs' → r ≡ line_at rs' i
      → x ≡ entry_seen h r.key r → answer ≡ fetched_met v x t → Outcome (to_read t) (new_read h t here.key now s) rs cs answer rs' cs'
  unfolding recovered rolled_forward rolled_back
  read_outcome h v r x g m e f b =
      let same : r ≡ recovered v here = e ∙ recovered-line now rs cs i read_standing v m in
      outcome-met (to_read t) rs cs a.line.accepted v (read_met v (sees h v) t) here
      (read_met_lem h g ∙ ap (λ (x : Recovery). unless_busy x (read_met x (sees h x) t) here) (sym m.met))
      (b ∙ (ap (λ (y : Entry). fetched_met v y t) (f ∙ ap (λ (z : Record). entry_seen h z.key z) same) ∙ (same_key_lem v ∙ met_fetched v here (sees h v) t)))
      m.written
    where
      -- a visit leaves the key
      same_key_lem : (v : Recovery) → fetched_met v (entry_seen h (recovered v here).key (recovered v here)) t ≡ fetched_met v (sees h v) t
      same_key_lem Stays = refl
      same_key_lem Forward = refl
      same_key_lem Back = refl
      same_key_lem Again = refl
      same_key_lem Busy = refl
