-- A record's ranges in parts: key, state, image, before state, before image and clock. The layout is those of its parts one after another.
use Rattle.std.specs.Prelude.{◌≡◌, ◌≤◌, ◌&&◌, ◌∷◌, ◌++◌}
use Rattle.std.proofs.Common.{◌∙◌}
use Rattle.lists.specs.Basics.{refl, sym, ap, ℕ, leb, Bool, true, and_assoc, List, [], length, arith, le-leb, and_fst, and_snd}
use Rattle.lists.specs.Basics.{and_both, tests}
use Rattle.model.specs.Types.{Key, Image, Record, State, Before, Column, StateWord, BeforeWord}
use Rattle.types.specs.declared.State.TheVariants.{Absent, Committed, Prepared}
use Rattle.types.specs.declared.Before.TheVariants as Was
use Rattle.model.specs.Layouts.{figures, word, record_layout, key_layout, image_layout, columns_layout, word_bytes}
use Rattle.model.specs.Lines.{in_range, row_good}
use Rattle.model.specs.Records.{state_number, before_number, key_numbers, image_numbers, record_numbers, key_in_range, state_rule, absence, no_before, absent_rule, is_zero, good_alone, no_image, absent_at}
use Rattle.model.specs.Coordinator.{names_issued}
use Rattle.model.specs.WellFormed.{image_in_range, columns_in_range}
use Rattle.sheet_laws.specs.Records.{ranged, good_ranged}

row-append : (cs ds : List Column) (vs ws : List ℕ) → length vs ≡ length cs → row_good (cs ++ ds) (vs ++ ws) ≡ (row_good cs vs && row_good ds ws)
unfolding row_good
row-append [] ds [] ws e = refl
row-append [] ds (v ∷ vs) ws e = absurd (omega arith)
row-append (c ∷ cs) ds [] ws e = absurd (omega arith)
row-append (c ∷ cs) ds (v ∷ vs) ws e =
    ap (λ (b : Bool). in_range c v && b) (row-append cs ds vs ws (omega arith))
    ∙ sym (and_assoc (in_range c v) (row_good cs vs) (row_good ds ws))

abbrev state_column : Column
state_column = word word_bytes StateWord 2

abbrev before_column : Column
before_column = word word_bytes BeforeWord 2

abbrev clock_column : Column
clock_column = figures 11 0 4294967295

-- the columns behind the image, and the numbers there
abbrev behind_image : List Column
behind_image = before_column ∷ (image_layout ++ (clock_column ∷ []))

abbrev numbers_behind : Record → List ℕ
numbers_behind r = before_number r.prior ∷ (image_numbers r.before ++ (r.clock ∷ []))

layout_parts_lem : record_layout ≡ key_layout ++ (state_column ∷ (image_layout ++ behind_image))
unfolding record_layout key_layout image_layout
layout_parts_lem = refl

-- the ranges of all but the key
abbrev after_key : Record → Bool
after_key r =
    in_range state_column (state_number r.state)
    && (image_in_range r.image && (in_range before_column (before_number r.prior) && (image_in_range r.before && (in_range clock_column r.clock && true))))

after_key_lem : (r : Record) → row_good (state_column ∷ (image_layout ++ behind_image)) (state_number r.state ∷ (image_numbers r.image ++ numbers_behind r)) ≡ after_key r
unfolding row_good image_in_range image_numbers image_layout record_layout
after_key_lem r =
    ap (λ (b : Bool). in_range state_column (state_number r.state) && b)
    (row-append image_layout behind_image (image_numbers r.image) (numbers_behind r) refl
    ∙ ap (λ (b : Bool). image_in_range r.image && (in_range before_column (before_number r.prior) && b))
    (row-append image_layout (clock_column ∷ []) (image_numbers r.before) (r.clock ∷ []) refl))

range_parts : (r : Record) → row_good record_layout (record_numbers r) ≡ (key_in_range r.key && after_key r)
unfolding record_numbers key_in_range key_numbers image_numbers key_layout image_layout record_layout
range_parts r =
    ap (λ (cs : List Column). row_good cs (record_numbers r)) layout_parts_lem
    ∙ (row-append key_layout (state_column ∷ (image_layout ++ behind_image)) (key_numbers r.key) _ refl
    ∙ ap (λ (b : Bool). key_in_range r.key && b) (after_key_lem r))

from_zero : (v h : ℕ) → v ≤ h → (leb 0 v && leb v h) ≡ true
from_zero v h l = and_both (le-leb 0 v (omega arith)) (le-leb v h l)

-- A record good alone that names issued numbers only, in parts.
pub record GoodParts (issued : ℕ) (r : Record) : Type 0 where
  pub key : key_in_range r.key ≡ true
  pub image : image_in_range r.image ≡ true
  pub before : image_in_range r.before ≡ true
  pub clock : r.clock ≤ 4294967295
  pub rule : state_rule r ≡ true
  pub txid : r.image.txid ≤ issued
  pub before_txid : r.before.txid ≤ issued

abbrev pub fine : ℕ → Record → Bool
fine issued r = good_alone r && names_issued issued r

pub fine-parts : (issued : ℕ) (r : Record) → fine issued r ≡ true → GoodParts issued r
unfolding good_alone names_issued in_range
fine-parts issued r h =
    let a : (row_good record_layout (record_numbers r) && state_rule r) ≡ true = and_fst _ (leb r.image.txid issued && leb r.before.txid issued) h in
    let b : (leb r.image.txid issued && leb r.before.txid issued) ≡ true = and_snd (row_good record_layout (record_numbers r) && state_rule r) _ h in
    let c : (key_in_range r.key && after_key r) ≡ true = sym (range_parts r) ∙ and_fst (row_good record_layout (record_numbers r)) (state_rule r) a in
    let d : after_key r ≡ true = and_snd (key_in_range r.key) (after_key r) c in
    record {
      key = and_fst (key_in_range r.key) (after_key r) c;
      image = search (tests, d);
      before = search (tests, d);
      clock = search (tests, d);
      rule = and_snd (row_good record_layout (record_numbers r)) (state_rule r) a;
      txid = search (tests, b);
      before_txid = search (tests, b);
    }

state_ranged : (x : State) → in_range state_column (state_number x) ≡ true
unfolding in_range state_number
state_ranged Absent = refl
state_ranged Committed = refl
state_ranged Prepared = refl

before-ranged : (x : Before) → in_range before_column (before_number x) ≡ true
unfolding in_range before_number
before-ranged Was.Nothing = refl
before-ranged Was.Absent = refl
before-ranged Was.Committed = refl

pub parts-fine : (issued : ℕ) (r : Record) → GoodParts issued r → fine issued r ≡ true
unfolding good_alone names_issued in_range
parts-fine issued r g =
    let c : (key_in_range r.key && after_key r) ≡ true =
    and_both g.key (and_both (state_ranged r.state) (and_both g.image (and_both (before-ranged r.prior) (and_both g.before (and_both (from_zero r.clock 4294967295 g.clock) refl))))) in
    and_both (and_both (range_parts r ∙ c) g.rule)
    (and_both (le-leb r.image.txid issued g.txid) (le-leb r.before.txid issued g.before_txid))

-- an image from its numbers and its columns
pub image-ranged : (m : Image) → m.version ≤ 99999 → m.txid ≤ 999 → columns_in_range (record { column1 = m.column1; column2 = m.column2 }) ≡ true → image_in_range m ≡ true
unfolding image_in_range columns_in_range image_numbers columns_layout image_layout record_layout row_good in_range
image-ranged m v n c = and_both (from_zero m.version 99999 v) (and_both (from_zero m.txid 999 n) c)

-- every number of an image of zeros is in range
pub zeros-ranged : image_in_range no_image ≡ true
unfolding image_in_range image_numbers image_layout record_layout row_good in_range
zeros-ranged = refl

-- a key without a line counts as an ABSENT line of version 0, which keeps the rules
pub absent_good : (issued : ℕ) (k : Key) → key_in_range k ≡ true → GoodParts issued (absent_at k)
unfolding absent_rule absence no_before is_zero
absent_good issued k h =
    record { key = h; image = zeros-ranged; before = zeros-ranged; clock = omega arith; rule = refl; txid = omega arith; before_txid = omega arith }

pub absent_ranged : (k : Key) → key_in_range k ≡ true → ranged (absent_at k) ≡ true
absent_ranged k h =
    good_ranged (absent_at k) (and_fst (good_alone (absent_at k)) (names_issued 0 (absent_at k)) (parts-fine 0 (absent_at k) (absent_good 0 k h)))
