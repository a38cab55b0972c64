-- The sequential model (document 01: the plain book): a line for each key and a write set (page) for each number. It is fed each call's arguments and
-- its answer, and never sees the sheets.
use Rattle.std.specs.Prelude.{◌&&◌, ◌∷◌}
use Rattle.lists.specs.Basics.{ℕ, eqb, Bool, false, cond, List, [], Option, none, some, any}
use Rattle.types.specs.declared.State.TheVariants.{Committed}
use Rattle.types.specs.declared.Before.TheVariants as Was
use Rattle.model.specs.Types.{Key, Record, Transaction}
use Rattle.model.specs.Records.{no_image, key_less, same_key, line_of}
use Rattle.model.specs.Images.{Change, written_image}
use Rattle.model.specs.Transactions.{no_verdict, committed_verdict}
use Rattle.model.specs.Results.{Call, begin, read, second, put, advance, abort, visit, add, remove, Answer, turned_away, returned, answered, visited}
use Rattle.model.specs.Results.{reported, acknowledged}
use Rattle.model.specs.Histories.{Event}

-- what is to be done to the line of each key
abbrev pub WriteSet : Type 0
WriteSet = Key → Option Change

pub record Model : Type 0 where
  -- the line of each key
  pub line : Key → Record
  -- the write set (page) of each number
  pub writes : ℕ → WriteSet
  -- the numbers committed, the last one first
  pub committed : List ℕ

-- "a line for each key, at first the record sheet's", "a key without a line counting, in the plain book too, as an ABSENT line of version 0"
unfoldable pub first_model : List Record → Model
first_model rs =
    record { line = λ (k : Key). line_of k rs; writes = λ (n : ℕ) (k : Key). none; committed = [] }

-- "accepted begin: an empty page for the number given"
unfoldable pub model_begin : ℕ → Model → Model
model_begin n m =
    record { line = m.line; writes = λ (i : ℕ). cond (eqb i n) (λ (k : Key). none) (m.writes i); committed = m.committed }

-- "accepted put: key and columns go on that number's page, in place of earlier ones for the key"
unfoldable pub model_put : ℕ → Key → Change → Model → Model
model_put n k c m =
    record { line = m.line; writes = λ (i : ℕ) (j : Key). cond (eqb i n && same_key k j) (some c) (m.writes i j); committed = m.committed }

-- "the book's line becomes COMMITTED, version + 1, TxID its number, the page's columns, before fields and clock 0"
unfoldable pub overwritten : ℕ → Option Change → Record → Record
overwritten n none r = r
overwritten n (some c) r = record { key = r.key; state = Committed; image = written_image n c r; prior = Was.Nothing; before = no_image; clock = 0 }

-- "the transaction is committed", for each key on its page
unfoldable pub model_commit : ℕ → Model → Model
model_commit n m =
    record { line = λ (k : Key). overwritten n (m.writes n k) (m.line k); writes = m.writes; committed = n ∷ m.committed }

-- "an accepted call that takes a transaction with verdict none and returns it committed"
abbrev pub commits_it : Option Transaction → Option Transaction → Bool
commits_it (some t) (some t') = eqb t.verdict no_verdict && eqb t'.verdict committed_verdict
commits_it (some t) none = false
commits_it none u = false

abbrev pub number_of : Option Transaction → ℕ
number_of none = 0
number_of (some t) = t.number

-- the model after a call that returned this transaction
unfoldable pub model_call : Call → Option Transaction → Model → Model
model_call (begin b) u m = model_begin (number_of u) m
model_call (put t k c) u m = model_put t.number k c m
model_call (read t k now) u m = cond (commits_it (some t) u) (model_commit t.number m) m
model_call (second t k now c) u m = cond (commits_it (some t) u) (model_commit t.number m) m
model_call (advance t now) u m = cond (commits_it (some t) u) (model_commit t.number m) m
model_call (abort t) u m = cond (commits_it (some t) u) (model_commit t.number m) m
model_call (visit k now) u m = m
model_call (add k) u m = m
model_call (remove k) u m = m

-- "any other call, refused ones too: nothing"
unfoldable pub model_step : Event → Model → Model
model_step e m = by_answer e.answer
  where
    by_answer : Answer → Model
    by_answer (turned_away n) = m
    by_answer (returned t) = model_call e.call (some t) m
    by_answer (answered v t) = model_call e.call (some t) m
    by_answer (visited v) = m
    by_answer (reported n t) = model_call e.call (some t) m
    by_answer acknowledged = m

-- the model after events, the last one first
unfoldable pub model_after : List Event → Model → Model
model_after [] m = m
model_after (e ∷ es) m = model_step e (model_after es m)

-- the model has committed the number
abbrev pub is_committed : ℕ → Model → Bool
is_committed n m = any (eqb n) m.committed

-- Which keys have a line, told from the events as the model is: at first those of the record sheet. Document 02, note 6.

-- "in key order"
unfoldable pub key_added : Key → List Key → List Key
key_added k [] = k ∷ []
key_added k (j ∷ ks) = cond (key_less k j) (k ∷ j ∷ ks) (j ∷ key_added k ks)

unfoldable pub key_removed : Key → List Key → List Key
key_removed k [] = []
key_removed k (j ∷ ks) = cond (same_key j k) ks (j ∷ key_removed k ks)

-- after a call that was acknowledged
unfoldable pub keys_call : Call → List Key → List Key
keys_call (begin b) ks = ks
keys_call (read t k now) ks = ks
keys_call (second t k now c) ks = ks
keys_call (put t k c) ks = ks
keys_call (advance t now) ks = ks
keys_call (abort t) ks = ks
keys_call (visit k now) ks = ks
keys_call (add k) ks = key_added k ks
keys_call (remove k) ks = key_removed k ks

unfoldable pub keys_step : Call → Answer → List Key → List Key
keys_step c (turned_away n) ks = ks
keys_step c (returned t) ks = ks
keys_step c (answered v t) ks = ks
keys_step c (visited v) ks = ks
keys_step c (reported n t) ks = ks
keys_step c acknowledged ks = keys_call c ks

-- after events, the last one first
unfoldable pub keys_after : List Event → List Key → List Key
keys_after [] ks = ks
keys_after (e ∷ es) ks = keys_step e.call e.answer (keys_after es ks)
