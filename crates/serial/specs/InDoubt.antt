-- Transactions in doubt: those that have their position and may still commit. What one of them has put it has prepared (recovery's memory), so that two of them
-- put to different lines, and a line whose condition holds is put to by none; and an entry whose condition holds is as the line, having its version or, where
-- columns are compared, all that it has.
use Rattle.std.specs.Prelude.{◌≡◌, ◌≤◌, ◌&&◌, ◌||◌}
use Rattle.std.proofs.Common.{◌∙◌}
use Rattle.lists.specs.Basics.{refl, sym, ap, ℕ, eqb, Bool, true, false, not, cond, List, none, some, none-ne-some, arith, eqb-true}
use Rattle.lists.specs.Basics.{eqb-false, not-true, and_snd, tests}
use Rattle.model.specs.Types.{Key, Record, Undecided, Entry, Transaction}
use Rattle.model.specs.Records.{line_of, has_line}
use Rattle.model.specs.Coordinator.{Letter, decision}
use Rattle.model.specs.Groups.{is_lower}
use Rattle.model.specs.Images.{Change, change_in, is_absent, is_prepared, prepared_by, unchanged, same_columns}
use Rattle.model.specs.Transactions.{held, was_absent}
use Rattle.model.specs.Writes.{Sheets}
use Rattle.model.specs.Steps.{holds, units_of}
use Rattle.model.specs.Histories.{Event, Available}
use Rattle.model.specs.SequentialModel.{Model, is_committed}
use Rattle.call_laws.specs.Sheets.{GoodSheets}
use Rattle.call_laws.specs.Steps.{holds_parts}
use Rattle.recovery.specs.Settling.{settled_plain}
use Rattle.recovery.specs.View.{View}
use Rattle.recovery.specs.Memory.{put_in, prepared_change, done_at, not-prepared, other_owner}
use Rattle.recovery.specs.Stages.{done_in_validate, done_in_decide}
use Rattle.recovery.specs.Invariant.{Inv, Remembered}
use Rattle.serial.specs.Runs.{Fresh, NoNewer}

-- What recovery's invariant says, as far as the order needs it.
pub record Facts (s : Sheets) (es : List Event) (m : Model) : Type 0 where
  pub good : GoodSheets s
  pub view : View s m
  pub known : (t : Transaction) → Available t es → Remembered s m t
  pub unique : (t u : Transaction) → Available t es → Available u es → t.number ≡ u.number → t ≡ u
  pub late : (t : Transaction) → Available t es → is_committed t.number m ≡ true → 5 ≤ t.phase

pub facts : {base : ℕ} {one : ℕ → Bool} {s : Sheets} {es : List Event} {m : Model} → Inv base one s es m → Facts s es m
facts inv = record { good = inv.good; view = inv.view; known = inv.known; unique = inv.unique; late = inv.counted.late }

-- the number n is in doubt: its state is in validate or decide, and its own line is `-`
pub record InDoubt (s : Sheets) (es : List Event) (n : ℕ) : Type 0 where
  pub state : Transaction
  pub available : Available state es
  pub number : state.number ≡ n
  pub from : 2 ≤ state.phase
  pub to : state.phase ≤ 3
  pub undecided : decision n s.coordinator ≡ Undecided

abbrev pub in_doubt : (s : Sheets) (es : List Event) (t : Transaction) → Available t es → 2 ≤ t.phase → t.phase ≤ 3
    → decision t.number s.coordinator ≡ Undecided → (n : ℕ) → n ≡ t.number → InDoubt s es n
in_doubt s es t a lo hi u n q =
    record { state = t; available = a; number = sym q; from = lo; to = hi; undecided = ap (λ (i : ℕ). decision i s.coordinator) q ∙ u }

-- in validate and decide all groups are done
pub all-prepared : (us : List Letter) (t : Transaction) → 2 ≤ t.phase → t.phase ≤ 3 → (k : Key) → done_at us t k ≡ put_in k (held t)
all-prepared us t lo hi k = go (eqb t.phase 2) refl
  where
    go : (b : Bool) → eqb t.phase 2 ≡ b → done_at us t k ≡ put_in k (held t)
    go true e = done_in_validate us t (eqb-true t.phase 2 e) k
    go false e = let d = eqb-false t.phase 2 e in done_in_decide us t (omega (arith, lo, hi, d)) k

-- who has prepared a line
prepared-owner : (n : ℕ) (r : Record) (c : Change) → prepared_change n r ≡ some c → r.image.txid ≡ n
unfolding prepared_change prepared_by
prepared-owner n r c h = go (prepared_by n r) refl h
  where
    go : (b : Bool) → prepared_by n r ≡ b → cond b (some (change_in r)) none ≡ some c → r.image.txid ≡ n
    go true q g = eqb-true r.image.txid n (and_snd (is_prepared r) (eqb r.image.txid n) q)
    go false q g = absurd (none-ne-some c g)

module _ {s : Sheets} {es : List Event} {m : Model} (f : Facts s es m) where
  -- up to withdraw nothing is committed
  pub uncommitted : (t : Transaction) → Available t es → t.phase ≤ 4 → is_committed t.number m ≡ false
  uncommitted t a l = go (is_committed t.number m) refl
    where
      go : (b : Bool) → is_committed t.number m ≡ b → b ≡ false
      go true e = let z : 5 ≤ t.phase = f.late t a e in absurd (omega (arith, l, z))
      go false e = refl

  -- the line of a key that a state has prepared names it
  pub owns : (t : Transaction) → Available t es → t.phase ≤ 3 → decision t.number s.coordinator ≡ Undecided → (k : Key) (c : Change)
      → done_at (units_of s) t k ≡ some c → (line_of k s.lines).image.txid ≡ t.number
  owns t a l u k c d = prepared-owner t.number (line_of k s.lines) c (((f.known t a).memory l).changes u k ∙ d)

  -- what one in doubt has put is what it has prepared
  puts-prepared : {n : ℕ} (x : InDoubt s es n) (k : Key) → prepared_change n (line_of k s.lines) ≡ put_in k (held x.state)
  puts-prepared x k =
      ap (λ (i : ℕ). prepared_change i (line_of k s.lines)) (sym x.number)
      ∙ (((f.known x.state x.available).memory x.to).changes (ap (λ (i : ℕ). decision i s.coordinator) x.number ∙ x.undecided) k
      ∙ all-prepared (units_of s) x.state x.from x.to k)

  -- so where another has prepared, it has put nothing
  pub puts_elsewhere : {n : ℕ} (x : InDoubt s es n) (i : ℕ) → (i ≡ n → ⊥) → (k : Key) → (line_of k s.lines).image.txid ≡ i → put_in k (held x.state) ≡ none
  puts_elsewhere {n} x i d k o = sym (puts-prepared x k) ∙ other_owner n (line_of k s.lines) (λ q. d (sym o ∙ q))

  -- two in doubt put to different lines
  pub two-in_doubt : {i j : ℕ} (x : InDoubt s es i) (y : InDoubt s es j) → (i ≡ j → ⊥) → (k : Key) (c : Change) → put_in k (held x.state) ≡ some c
      → put_in k (held y.state) ≡ none
  two-in_doubt {i} x y d k c h = puts_elsewhere y i d k (prepared-owner i (line_of k s.lines) c (puts-prepared x k ∙ h))

  -- The line of an entry whose condition holds.

  record Held (e : Entry) : Type 0 where
    free : is_prepared (line_of e.key s.lines) ≡ false
    line : m.line e.key ≡ line_of e.key s.lines
    version : (line_of e.key s.lines).image.version ≡ e.seen.version
    compared : is_lower (units_of s) e.key ≡ true → e.seen ≡ (line_of e.key s.lines).image

  held-line : (e : Entry) → holds s e ≡ true → Held e
  unfolding holds unchanged same_columns
  held-line e h =
      record { free = p; line = sym (f.view e.key) ∙ settled_plain s.coordinator r p; version = v; compared = compared }
    where
      r : Record
      r = line_of e.key s.lines

      u : unchanged e r ≡ true
      u = (holds_parts s e h).1

      p : is_prepared r ≡ false
      p = not-true (is_prepared r) (search (tests, u))

      v : r.image.version ≡ e.seen.version
      v = search (tests, u)

      x : r.image.txid ≡ e.seen.txid
      x = search (tests, u)

      compared : is_lower (units_of s) e.key ≡ true → e.seen ≡ r.image
      compared l =
          let q : same_columns e r ≡ true =
          ap (λ (b : Bool). not b || same_columns e r) (sym l) ∙ and_snd (has_line e.key s.lines && unchanged e r) (not (is_lower (units_of s) e.key) || same_columns e r) h in
          let a : r.image.column1 ≡ e.seen.column1 = search (tests, q) in
          let b : r.image.column2 ≡ e.seen.column2 = search (tests, q) in
          λ i. record { version = sym v i; txid = sym x i; column1 = sym a i; column2 = sym b i }

  -- it is as the line
  pub holds_fresh : (e : Entry) → holds s e ≡ true → NoNewer (is_lower (units_of s) e.key) m.line e → Fresh m.line e
  holds_fresh e h n = λ i. record { absent = same.0 i; image = go (is_lower (units_of s) e.key) refl i }
    where
      x : Held e
      x = held-line e h

      same : (was_absent e ≡ is_absent (m.line e.key)) × (is_lower (units_of s) e.key ≡ false → e.seen ≡ (m.line e.key).image)
      same = n.1 (sym (ap (λ (r : Record). r.image.version) x.line ∙ x.version))

      go : (b : Bool) → is_lower (units_of s) e.key ≡ b → e.seen ≡ (m.line e.key).image
      go true q = x.compared q ∙ ap (λ (r : Record). r.image) (sym x.line)
      go false q = same.1 q

  -- and put to by no one in doubt
  pub holds-free : (e : Entry) → holds s e ≡ true → {n : ℕ} (x : InDoubt s es n) → put_in e.key (held x.state) ≡ none
  holds-free e h {n} x = sym (puts-prepared x e.key) ∙ not-prepared n (line_of e.key s.lines) (held-line e h).free
