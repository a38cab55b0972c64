-- A record that keeps the rules keeps them when it is prepared, committed in one phase, rolled forward or back; and what rolling a prepared record gives.
-- Each goes part by part, the rule of the new state from that of the old.
use Rattle.std.specs.Prelude.{◌≡◌, ◌+◌, ◌≤◌}
use Rattle.lists.specs.Basics.{refl, sym, ℕ, eqb, leb, Bool, true, false, cond, true≢false, arith}
use Rattle.lists.specs.Basics.{eq-eqb, le-leb, and_fst, and_snd, and_both, tests}
use Rattle.model.specs.Types.{Key, Image, Record, State, Before}
use Rattle.types.specs.declared.State.TheVariants.{Absent, Committed, Prepared}
use Rattle.types.specs.declared.Before.TheVariants as Was
use Rattle.model.specs.Records.{by_state, by_before, is_zero, absence, no_before, before_rule, absent_rule, committed_rule, prepared_rule, state_rule, no_image, absent_at}
use Rattle.model.specs.Images.{is_absent, is_prepared, Change, written_image, prepared, committed, state_kept, rolled_forward, state_back, rolled_back}
use Rattle.model.specs.WellFormed.{image_in_range, columns_in_range}
use Rattle.model.specs.Conditions.{is_blank}
use Rattle.call_laws.specs.Ranges.{GoodParts, image-ranged, zeros-ranged}

-- absence as a number, and back
pub flag_says : (a : Bool) → eqb (cond a 1 0) 1 ≡ a
flag_says true = refl
flag_says false = refl

-- The rule of a state, from the record's.

pub when_prepared : (r : Record) → is_prepared r ≡ true → state_rule r ≡ true → prepared_rule r ≡ true
when_prepared r = go r.state
  where
    go : (x : State) → by_state x false false true ≡ true → by_state x (absent_rule r) (committed_rule r) (prepared_rule r) ≡ true → prepared_rule r ≡ true
    go Absent p h = absurd (true≢false (sym p))
    go Committed p h = absurd (true≢false (sym p))
    go Prepared p h = h

-- a record that is neither absent nor prepared has version 1 or more
pub version_some : (r : Record) → is_prepared r ≡ false → is_absent r ≡ false → state_rule r ≡ true → leb 1 r.image.version ≡ true
unfolding committed_rule
version_some r = go r.state
  where
    go : (x : State) → by_state x false false true ≡ false → by_state x true false false ≡ false → by_state x (absent_rule r) (committed_rule r) (prepared_rule r) ≡ true → leb 1 r.image.version ≡ true
    go Absent p a h = absurd (true≢false a)
    go Committed p a h = search tests
    go Prepared p a h = absurd (true≢false p)

-- a record that isn't prepared has the image of an absence, or version 1 or more
pub when_settled : (r : Record) → is_prepared r ≡ false → state_rule r ≡ true → cond (is_absent r) (absence r.image) (leb 1 r.image.version) ≡ true
unfolding absent_rule committed_rule
when_settled r = go r.state
  where
    go : (x : State) → by_state x false false true ≡ false → by_state x (absent_rule r) (committed_rule r) (prepared_rule r) ≡ true → cond (by_state x true false false) (absence r.image) (leb 1 r.image.version) ≡ true
    go Absent p h = search tests
    go Committed p h = search tests
    go Prepared p h = absurd (true≢false p)

-- its image, kept as a before image beside its state, keeps the rule of before images
kept_rule : (r : Record) → is_prepared r ≡ false → state_rule r ≡ true → by_before (state_kept r.state) false (absence r.image) (leb 1 r.image.version) ≡ true
unfolding absent_rule committed_rule
kept_rule r = go r.state
  where
    go : (x : State) → by_state x false false true ≡ false → by_state x (absent_rule r) (committed_rule r) (prepared_rule r) ≡ true → by_before (state_kept x) false (absence r.image) (leb 1 r.image.version) ≡ true
    go Absent p h = search tests
    go Committed p h = search tests
    go Prepared p h = absurd (true≢false p)

-- a settled record has nothing before it
nothing_before_lem : (k : Key) (s : State) (m : Image) → no_before (record { key = k; state = s; image = m; prior = Was.Nothing; before = no_image; clock = 0 }) ≡ true
unfolding no_before is_zero
nothing_before_lem k s m = refl

-- a before image rolled back keeps the rule of its state
back_rule : (r : Record) → before_rule r ≡ true → state_rule (rolled_back r) ≡ true
unfolding rolled_back before_rule absent_rule committed_rule
back_rule r = go r.prior
  where
    go : (b : Before) → by_before b false (absence r.before) (leb 1 r.before.version) ≡ true → by_state (state_back b) (absent_rule (rolled_back r)) (committed_rule (rolled_back r)) (prepared_rule (rolled_back r)) ≡ true
    go Was.Nothing h = absurd (true≢false (sym h))
    go Was.Absent h = and_both h (nothing_before_lem r.key _ _)
    go Was.Committed h = and_both h (nothing_before_lem r.key _ _)

-- What a put may be written over: a record that isn't prepared, under an issued number.
pub record MayPut (issued n : ℕ) (c : Change) (r : Record) : Type 0 where
  pub number : 1 ≤ n
  pub known : n ≤ issued
  pub few : issued ≤ 999
  pub version : r.image.version ≤ 99998
  pub columns : columns_in_range c ≡ true
  pub free : is_prepared r ≡ false

module _ (issued n : ℕ) (c : Change) (r : Record) (good : GoodParts issued r) (may : MayPut issued n c r) where
  put_ranged : image_in_range (written_image n c r) ≡ true
  put_ranged =
      image-ranged (written_image n c r) (let v : r.image.version ≤ 99998 = may.version in omega arith)
      (let l : n ≤ issued = may.known in let m : issued ≤ 999 = may.few in omega arith) may.columns

  pub committed-fine : GoodParts issued (committed n c r)
  unfolding committed committed_rule
  committed-fine =
      record {
        key = good.key;
        image = put_ranged;
        before = zeros-ranged;
        clock = omega arith;
        rule = and_both (le-leb 1 (r.image.version + 1) (omega arith)) (nothing_before_lem r.key _ _);
        txid = may.known;
        before_txid = omega arith;
      }

  pub prepared-fine : (now : ℕ) → now ≤ 4294967295 → GoodParts issued (prepared n now c r)
  unfolding prepared prepared_rule before_rule
  prepared-fine now l =
      record {
        key = good.key;
        image = put_ranged;
        before = good.image;
        clock = l;
        rule =
            and_both (and_both (le-leb 1 n may.number) (eq-eqb (r.image.version + 1) (r.image.version + 1) refl))
            (kept_rule r may.free good.rule);
        txid = may.known;
        before_txid = good.txid;
      }

module _ (issued : ℕ) (r : Record) (good : GoodParts issued r) (pending : is_prepared r ≡ true) where
  pub forward_fine : GoodParts issued (rolled_forward r)
  unfolding rolled_forward committed_rule prepared_rule
  forward_fine =
      let h : prepared_rule r ≡ true = when_prepared r pending good.rule in
      let v : r.image.version ≡ r.before.version + 1 = search (tests, h) in
      record {
        key = good.key;
        image = good.image;
        before = zeros-ranged;
        clock = omega arith;
        rule = and_both (le-leb 1 r.image.version (omega arith)) (nothing_before_lem r.key _ _);
        txid = good.txid;
        before_txid = omega arith;
      }

  pub back_fine : GoodParts issued (rolled_back r)
  unfolding rolled_back prepared_rule
  back_fine =
      let h : prepared_rule r ≡ true = when_prepared r pending good.rule in
      let b : before_rule r ≡ true = search (tests, h) in
      record {
        key = good.key;
        image = good.before;
        before = zeros-ranged;
        clock = omega arith;
        rule = back_rule r b;
        txid = good.before_txid;
        before_txid = omega arith;
      }

-- Rolling a prepared record.

-- rolling it forward gives what one phase would have written
pub forward_is_commit : (n now : ℕ) (c : Change) (r : Record) → rolled_forward (prepared n now c r) ≡ committed n c r
unfolding rolled_forward prepared committed
forward_is_commit n now c r = refl

zero_is : (m : Image) → is_zero m ≡ true → m ≡ no_image
unfolding is_zero
zero_is m h =
    let v : m.version ≡ 0 = search tests in
    let n : m.txid ≡ 0 = search tests in
    let a : m.column1 ≡ 0 = search tests in
    let b : m.column2 ≡ 0 = search tests in
    λ i. record { version = v i; txid = n i; column1 = a i; column2 = b i }

nothing_is : (b : Before) → by_before b true false false ≡ true → b ≡ Was.Nothing
nothing_is Was.Nothing h = refl
nothing_is Was.Absent h = absurd (true≢false (sym h))
nothing_is Was.Committed h = absurd (true≢false (sym h))

-- a record that has nothing before it
record Nothing (r : Record) : Type 0 where
  prior : r.prior ≡ Was.Nothing
  before : r.before ≡ no_image
  clock : r.clock ≡ 0

no_before_lem : (r : Record) → no_before r ≡ true → Nothing r
unfolding no_before
no_before_lem r h =
    let n : by_before r.prior true false false ≡ true = search tests in
    let z : is_zero r.before ≡ true = search tests in
    let c : r.clock ≡ 0 = search tests in
    record { prior = nothing_is r.prior n; before = zero_is r.before z; clock = c }

-- an absence of version 0 has nothing else either
absence-none : (m : Image) → absence m ≡ true → eqb m.version 0 ≡ true → is_zero m ≡ true
unfolding absence is_zero
absence-none m h v = rw v (rw v at h)

-- a blank record is the ABSENT line of its key
pub blank_is : (r : Record) → state_rule r ≡ true → is_blank r ≡ true → r ≡ absent_at r.key
unfolding is_blank absent_rule
blank_is r = λ h b. go r.state refl h (and_fst (is_absent r) (eqb r.image.version 0) b) (and_snd (is_absent r) (eqb r.image.version 0) b)
  where
    go : (x : State) → r.state ≡ x → by_state x (absent_rule r) (committed_rule r) (prepared_rule r) ≡ true → by_state x true false false ≡ true → eqb r.image.version 0 ≡ true → r ≡ absent_at r.key
    go Absent e h a v =
        let s : absence r.image ≡ true = search tests in
        let m : is_zero r.image ≡ true = absence-none r.image s v in
        let z : no_before r ≡ true = search tests in
        let n = no_before_lem r z in
        λ i. record { key = r.key; state = e i; image = zero_is r.image m i; prior = n.prior i; before = n.before i; clock = n.clock i }
    go Committed e h a v = absurd (true≢false (sym a))
    go Prepared e h a v = absurd (true≢false (sym a))

-- a record that isn't prepared has nothing before it, and kept beside its image its state comes back
settled : (r : Record) → is_prepared r ≡ false → state_rule r ≡ true → (state_back (state_kept r.state) ≡ r.state) × (no_before r ≡ true)
unfolding absent_rule committed_rule
settled r = go r.state
  where
    go : (x : State) → by_state x false false true ≡ false → by_state x (absent_rule r) (committed_rule r) (prepared_rule r) ≡ true → (state_back (state_kept x) ≡ x) × (no_before r ≡ true)
    go Absent p h = (refl, search tests)
    go Committed p h = (refl, search tests)
    go Prepared p h = absurd (true≢false p)

-- rolling it back gives the record that was there
pub back_is_before : (n now : ℕ) (c : Change) (r : Record) → is_prepared r ≡ false → state_rule r ≡ true → rolled_back (prepared n now c r) ≡ r
unfolding rolled_back prepared
back_is_before n now c r p h =
    let s = settled r p h in
    let n = no_before_lem r s.1 in
    λ i. record { key = r.key; state = s.0 i; image = r.image; prior = sym n.prior i; before = sym n.before i; clock = sym n.clock i }

-- a rolled record isn't prepared
pub forward_plain : (r : Record) → is_prepared (rolled_forward r) ≡ false
unfolding rolled_forward
forward_plain r = refl

pub back_plain : (r : Record) → is_prepared (rolled_back r) ≡ false
unfolding rolled_back
back_plain r = go r.prior
  where
    go : (b : Before) → by_state (state_back b) false false true ≡ false
    go Was.Nothing = refl
    go Was.Absent = refl
    go Was.Committed = refl
