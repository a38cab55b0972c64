-- T1: for each call the refusal given is the first of its row whose condition holds, in the order of asking, and after it both sheets are as they were.
-- The first condition that holds is the first of the order, since each call's list keeps it.
use Rattle.std.specs.Prelude.{◌≡◌, ◌≤◌, ◌&&◌, ◌||◌, ◌∷◌, ◌++◌}
use Rattle.std.proofs.Common.{◌∙◌}
use Rattle.lists.specs.Basics.{refl, sym, ap, ℕ, eqb, leb, Bool, true, false, not, cond, List, [], map, arith, eqb-true}
use Rattle.lists.specs.Basics.{leb-true, eq-eqb, ne_eqb, le-leb, all, any, and_fst, and_snd, and_both, choose_by}
use Rattle.lists.specs.All.{map-map, all_map, all_weaken}
use Rattle.model.specs.Refusals.{Condition, refuse, refusal_of, last_refusal, count_before, asked, none_before, first_asked}
use Rattle.model.specs.SheetCalls.{check_conditions}
use Rattle.model.specs.Types.{Key, Image, Record, Transaction}
use Rattle.model.specs.Writes.{Sheets, Write}
use Rattle.model.specs.Steps.{units_of}
use Rattle.model.specs.Results.{Call, begin, read, second, put, advance, abort, visit, add, remove, Answer, refusal_in, Response, Result, refused, made, answer_of}
use Rattle.model.specs.Results.{unless}
use Rattle.model.specs.Conditions.{takes_two, conditions, refusals}
use Rattle.model.specs.Calls.{whole_read, outcome, result_of}
use Rattle.model.specs.ByteCalls.{sheets_said, all_conditions, result_on, sheet_after, coordinator_after}
use Rattle.model.specs.ByteHistories.{Bytes, saying, bytes_after, answer_on, after_on}
use Rattle.call_laws.specs.Choices.{has_number, unless_of, by_whole}
use Rattle.call_laws.specs.Accepted.{refusal_front, refusal_past}

-- from n on the numbers rise
unfoldable pub rising_from : ℕ → List ℕ → Bool
rising_from n [] = true
rising_from n (m ∷ ms) = leb n m && rising_from m ms

-- where each condition's number stands in the order of asking
abbrev positions : List Condition → List ℕ
positions cs = map (λ (c : Condition). asked c.number) cs

none_before_lem : (n m : ℕ) (cs : List Condition) → asked n ≤ m → rising_from m (positions cs) ≡ true → none_before n cs ≡ true
unfolding rising_from all
none_before_lem n m [] l h = refl
none_before_lem n m (c ∷ cs) l h =
    let a : m ≤ asked c.number = leb-true m (asked c.number) (and_fst (leb m (asked c.number)) (rising_from (asked c.number) (positions cs)) h) in
    let b : leb (asked n) (asked c.number) ≡ true = le-leb (asked n) (asked c.number) (omega arith) in
    and_both (go c.holds b)
    (none_before_lem n (asked c.number) cs (omega arith) (and_snd (leb m (asked c.number)) (rising_from (asked c.number) (positions cs)) h))
  where
    go : (x : Bool) → leb (asked n) (asked c.number) ≡ true → (not x || leb (asked n) (asked c.number)) ≡ true
    go true b = b
    go false b = refl

-- one more condition in front: if it holds it is the first, else what was the first still is
first_cons : (m : ℕ) (x : Bool) (cs : List Condition) → 1 ≤ m → rising_from (asked m) (positions cs) ≡ true → first_asked (refusal_of cs) cs ≡ true → first_asked (cond x m (refusal_of cs)) (refuse m x ∷ cs) ≡ true
unfolding all any
first_cons m true cs l h r =
    let z : eqb m 0 ≡ false = ne_eqb m 0 (λ e. omega (arith, e)) in
    let y : eqb m m ≡ true = eq-eqb m m refl in
    let b : leb (asked m) (asked m) ≡ true = le-leb (asked m) (asked m) (omega arith) in
    let f : none_before m cs ≡ true = none_before_lem m (asked m) cs (omega arith) h in
    rw (z, y, b, f) refl
first_cons m false cs l h r = r

pub first_is_first : (n : ℕ) (cs : List Condition) → all (λ (c : Condition). leb 1 c.number) cs ≡ true → rising_from n (positions cs) ≡ true → first_asked (refusal_of cs) cs ≡ true
unfolding rising_from all any refusal_of
first_is_first n [] l h = refl
first_is_first n (c ∷ cs) l h =
    let g : rising_from (asked c.number) (positions cs) ≡ true = and_snd (leb n (asked c.number)) (rising_from (asked c.number) (positions cs)) h in
    let m : 1 ≤ c.number = leb-true 1 c.number (and_fst (leb 1 c.number) (all (λ (x : Condition). leb 1 x.number) cs) l) in
    let k : all (λ (x : Condition). leb 1 x.number) cs ≡ true = and_snd (leb 1 c.number) (all (λ (x : Condition). leb 1 x.number) cs) l in
    first_cons c.number c.holds cs m g (first_is_first (asked c.number) cs k g)

-- no number is above the last
pub small : (cs : List Condition) → all (λ (c : Condition). leb c.number last_refusal) cs ≡ true → refusal_of cs ≤ last_refusal
unfolding all refusal_of
small [] h = omega arith
small (c ∷ cs) h =
    choose_by (λ (n : ℕ). n ≤ last_refusal) c.holds
    (λ e. leb-true c.number last_refusal (and_fst (leb c.number last_refusal) _ h))
    (λ e. small cs (and_snd (leb c.number last_refusal) (all (λ (x : Condition). leb x.number last_refusal) cs) h))

-- The lists of the calls.

abbrev numbers : List Condition → List ℕ
numbers cs = map (λ (c : Condition). c.number) cs

-- "conditions are those of the table's row"
pub numbers_are : (call : Call) (rs cs : List ℕ) → numbers (all_conditions call rs cs) ≡ refusals call
unfolding all_conditions check_conditions conditions refusals
numbers_are (begin b) rs cs = refl
numbers_are (read t k now) rs cs = refl
numbers_are (second t k now c) rs cs = refl
numbers_are (put t k c) rs cs = refl
numbers_are (advance t now) rs cs = refl
numbers_are (abort t) rs cs = refl
numbers_are (visit k now) rs cs = refl
numbers_are (add k) rs cs = refl
numbers_are (remove k) rs cs = refl

-- beside a record sheet a row rises, so that the first that applies is the lowest
pub rows_rise : (call : Call) → rising_from 1 (refusals call) ≡ true
unfolding refusals rising_from
rows_rise (begin b) = refl
rows_rise (read t k now) = refl
rows_rise (second t k now c) = refl
rows_rise (put t k c) = refl
rows_rise (advance t now) = refl
rows_rise (abort t) = refl
rows_rise (visit k now) = refl
rows_rise (add k) = refl
rows_rise (remove k) = refl

-- a row: its numbers are of the table, in the order of asking
abbrev row_in_order : List ℕ → Bool
row_in_order ns = rising_from 0 (map asked ns) && all (λ (n : ℕ). leb 1 n && leb n last_refusal) ns

row_in_order_lem : (call : Call) → row_in_order (refusals call) ≡ true
unfolding refusals rising_from all count_before
row_in_order_lem (begin b) = refl
row_in_order_lem (read t k now) = refl
row_in_order_lem (second t k now c) = refl
row_in_order_lem (put t k c) = refl
row_in_order_lem (advance t now) = refl
row_in_order_lem (abort t) = refl
row_in_order_lem (visit k now) = refl
row_in_order_lem (add k) = refl
row_in_order_lem (remove k) = refl

-- what a row says of the conditions that have its numbers
module _ (cs : List Condition) (h : row_in_order (numbers cs) ≡ true) where
  row-positions : rising_from 0 (positions cs) ≡ true
  row-positions =
      ap (rising_from 0) (sym (map-map asked (λ (c : Condition). c.number) cs))
      ∙ and_fst (rising_from 0 (map asked (numbers cs))) (all (λ (n : ℕ). leb 1 n && leb n last_refusal) (numbers cs)) h

  row_within : all (λ (c : Condition). leb 1 c.number && leb c.number last_refusal) cs ≡ true
  row_within =
      sym (all_map (λ (n : ℕ). leb 1 n && leb n last_refusal) (λ (c : Condition). c.number) cs)
      ∙ and_snd (rising_from 0 (map asked (numbers cs))) (all (λ (n : ℕ). leb 1 n && leb n last_refusal) (numbers cs)) h

  pub row_first : first_asked (refusal_of cs) cs ≡ true
  row_first =
      first_is_first 0 cs
      (all_weaken (λ (c : Condition). leb 1 c.number && leb c.number last_refusal) (λ (c : Condition). leb 1 c.number)
      (λ c e. and_fst (leb 1 c.number) (leb c.number last_refusal) e) cs row_within)
      row-positions

  pub row_small : refusal_of cs ≤ last_refusal
  row_small =
      small cs
      (all_weaken (λ (c : Condition). leb 1 c.number && leb c.number last_refusal) (λ (c : Condition). leb c.number last_refusal)
      (λ c e. and_snd (leb 1 c.number) (leb c.number last_refusal) e) cs row_within)

call_in_order : (call : Call) (rs cs : List ℕ) → row_in_order (numbers (all_conditions call rs cs)) ≡ true
call_in_order call rs cs = ap row_in_order (numbers_are call rs cs) ∙ row_in_order_lem call

-- "The lowest number that applies is given": of the conditions of the call's row the first that is asked.
pub refusal_is_first : (call : Call) (rs cs : List ℕ) → first_asked (refusal_of (all_conditions call rs cs)) (all_conditions call rs cs) ≡ true
refusal_is_first call rs cs = row_first (all_conditions call rs cs) (call_in_order call rs cs)

-- What is asked comes to.

-- a refusal of the table, or an answer that turns nobody away
pub data Sound {E : Type 0} : Response Answer E → Type 0 where
  sound_refused : (n : ℕ) → 1 ≤ n → n ≤ last_refusal → Sound (refused n)
  sound_made : (a : Answer) (e : E) → refusal_in a ≡ 0 → Sound (made a e)

pub sound_unless : {E : Type 0} (cs : List Condition) (r : Response Answer E) → all (λ (c : Condition). leb c.number last_refusal) cs ≡ true → Sound r → Sound (unless cs r)
sound_unless cs r h s = unless_of Sound cs (λ z. sound_refused (refusal_of cs) (positive (refusal_of cs) z) (small cs h)) (λ z. s)
  where
    positive : (n : ℕ) → (n ≡ 0 → ⊥) → 1 ≤ n
    positive n d = omega (arith, d)

-- what holds of every refusal holds where a client is turned away
pub when_refused : {E : Type 0} (P : Response Answer E → Type 0) → ((n : ℕ) → P (refused n)) → (r : Response Answer E) → Sound r → 1 ≤ refusal_in (answer_of r) → P r
when_refused P f r (sound_refused n l m) k = f n
when_refused P f r (sound_made a e z) k = absurd (omega (arith, z, k))

-- the refusal is that of the conditions, where they are all that refuses
pub refusal_unless : {E : Type 0} (cs : List Condition) (r : Response Answer E) → refusal_in (answer_of r) ≡ 0 → refusal_in (answer_of (unless cs r)) ≡ refusal_of cs
refusal_unless cs r h = go (eqb (refusal_of cs) 0) refl
  where
    go : (b : Bool) → eqb (refusal_of cs) 0 ≡ b → refusal_in (answer_of (cond b r (refused (refusal_of cs)))) ≡ refusal_of cs
    go true e = h ∙ sym (eqb-true (refusal_of cs) 0 e)
    go false e = refl

-- and where others are asked after them
pub refusal_then : {E : Type 0} (cs ps : List Condition) (r : Response Answer E) → all has_number cs ≡ true → refusal_in (answer_of r) ≡ refusal_of ps → refusal_in (answer_of (unless cs r)) ≡ refusal_of (cs ++ ps)
refusal_then cs ps r l h =
    unless_of (λ x. refusal_in (answer_of x) ≡ refusal_of (cs ++ ps)) cs
    (λ z. refusal_front cs ps (refusal_of cs) refl z)
    (λ z. h ∙ sym (refusal_past cs ps l z))

-- The calls.

-- what an accepted call comes to is made, and turns nobody away
data Made : Result Answer → Type 0 where
  is_made : (a : Answer) (w : Write) → refusal_in a ≡ 0 → Made (made a w)

whole_made : (sees : Record → Image) (t : Transaction) (k : Key) (now : ℕ) (s : Sheets) → Made (whole_read sees t k now s)
whole_made sees t k now s = by_whole sees t k now s Made (λ n a. is_made _ _ refl) (λ n a. is_made _ _ refl) (λ n. is_made _ _ refl)

outcome_made : (c : Call) (s : Sheets) → Made (outcome c s)
unfolding outcome
outcome_made (begin b) s = is_made _ _ refl
outcome_made (read t k now) s = choose_by Made (takes_two (units_of s) k t) (λ e. is_made _ _ refl) (λ e. whole_made _ t k now s)
outcome_made (second t k now c) s = whole_made _ t k now s
outcome_made (put t k c) s = is_made _ _ refl
outcome_made (advance t now) s = is_made _ _ refl
outcome_made (abort t) s = is_made _ _ refl
outcome_made (visit k now) s = is_made _ _ refl
outcome_made (add k) s = is_made _ _ refl
outcome_made (remove k) s = is_made _ _ refl

outcome_accepts : (c : Call) (s : Sheets) → refusal_in (answer_of (outcome c s)) ≡ 0
outcome_accepts c s = go (outcome c s) (outcome_made c s)
  where
    go : (r : Result Answer) → Made r → refusal_in (answer_of r) ≡ 0
    go r (is_made a w e) = e

pub result_refusal : (c : Call) (s : Sheets) → refusal_in (answer_of (result_of c s)) ≡ refusal_of (conditions c s)
unfolding result_of
result_refusal c s = refusal_unless (conditions c s) (outcome c s) (outcome_accepts c s)

-- an answer's refusal is that of the call's conditions
pub refusal_given : (call : Call) (b : Bytes) → refusal_in (answer_on call b) ≡ refusal_of (all_conditions call b.records b.coordinator)
unfolding answer_on all_conditions check_conditions result_on all
refusal_given call b =
    refusal_then (check_conditions b.records b.coordinator) (conditions call (saying b)) (result_of call (saying b)) refl (result_refusal call (saying b))

conditions_small : (call : Call) (s : Sheets) → all (λ (c : Condition). leb c.number last_refusal) (conditions call s) ≡ true
unfolding all conditions
conditions_small (begin b) s = refl
conditions_small (read t k now) s = refl
conditions_small (second t k now c) s = refl
conditions_small (put t k c) s = refl
conditions_small (advance t now) s = refl
conditions_small (abort t) s = refl
conditions_small (visit k now) s = refl
conditions_small (add k) s = refl
conditions_small (remove k) s = refl

pub decoded_sound : (call : Call) (s : Sheets) → Sound (result_of call s)
unfolding result_of
decoded_sound call s = sound_unless (conditions call s) _ (conditions_small call s) (go (outcome call s) (outcome_made call s))
  where
    go : (r : Result Answer) → Made r → Sound r
    go r (is_made a w e) = sound_made a w e

-- what the check refuses is of the table
pub sound_on : {E : Type 0} (rs cs : List ℕ) (r : Response Answer E) → Sound r → Sound (unless (check_conditions rs cs) r)
unfolding check_conditions all
sound_on rs cs r k = sound_unless (check_conditions rs cs) r refl k

pub result_sound : (call : Call) (rs cs : List ℕ) → Sound (result_on call rs cs)
unfolding result_on
result_sound call rs cs = sound_on rs cs (result_of call (sheets_said rs cs)) (decoded_sound call (sheets_said rs cs))

-- "after a refusal it finds both sheets .. unchanged"
pub refused_unchanged : (call : Call) (b : Bytes) → 1 ≤ refusal_in (answer_on call b) → after_on call b ≡ b
unfolding answer_on after_on sheet_after coordinator_after
refused_unchanged call b =
    when_refused (λ (x : Result Answer). bytes_after b x ≡ b) (λ n. refl) (result_on call b.records b.coordinator) (result_sound call b.records b.coordinator)
