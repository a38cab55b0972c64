-- The kinds of line as rows of a table: the rule of a state and a before state as limits on the fields of `record_layout`, so that a line's parts say words,
-- zeros and bounds at once, and as relations between two fields, which no part says. What is asked of every row is computed over the table; that limits and
-- relations are the rule is computed once the numbers of state and before state are known.
use Rattle.std.specs.Prelude.{◌≡◌, ◌+◌, ◌-◌, ◌*◌, ◌≤◌, ◌<◌, ◌&&◌, ◌||◌, ◌∷◌, ◌++◌}
use Rattle.std.proofs.Common.{◌∙◌}
use Rattle.lists.specs.Basics.{refl, sym, ap, ap₂, ℕ, zero, suc, eqb, leb, Bool, true, false, not, and_assoc}
use Rattle.lists.specs.Basics.{and-true, and-false, List, [], length, take, get_or, set, arith, eqb-true, eq-eqb, le-leb, all}
use Rattle.lists.specs.Basics.{bytes, and_both, same_test, choose_by, tests}
use Rattle.std.proofs.Math.Dec.{leb-zero, leb-suc-zero}
use Rattle.lists.specs.All.{all_at}
use Rattle.lists.specs.Tests.{and_move, and_swap}
use Rattle.types.specs.declared.State.TheVariants.{Absent, Committed, Prepared}
use Rattle.types.specs.declared.Before.TheVariants as Was
use Rattle.model.specs.Types.{State, Before, Column, StateWord, BeforeWord}
use Rattle.model.specs.Layouts.{record_layout, words, word_at, no_column, state_field, image_field, txid_field, before_state_field, before_field, clock_field, record_fields}
use Rattle.model.specs.Lines.{field_value, field_bytes, word_from, in_range}
use Rattle.model.specs.Records.{state_number, state_of, before_number, before_of, state_rule, image_from, record_of, is_zero, absence, no_before, absent_rule, committed_rule, before_rule, prepared_rule}
use Rattle.sheet_laws.specs.Fields.{column_ok, all_below, is_the, word_ok}
use Rattle.line_bytes.specs.Parts.{Part}
use Rattle.line_bytes.specs.Tables.{bit}
use Rattle.line_bytes.specs.Loads.{loaded}
use Rattle.record_check.specs.Ranges.{opened, opens}
use Rattle.record_check.specs.LayoutParts.{sayable, layout_parts}
use Rattle.record_check.specs.Limits.{Limit, at_least, at_most, keeps, narrowed, limited, narrows, all_narrow, says}
use Rattle.record_check.specs.Asked.{Relation, follow, agree, agree_before, version_follows, numbers_agree, zeros_agree, holds_in, holds_on}
use Rattle.record_check.specs.Relations.{version_at, before_at, follows}

-- a kind of line: its state and before state, the limits on the other fields behind the state word, and the relations that it asks for besides
pub record LineKind : Type 0 where
  pub state : State
  pub prior : Before
  pub limits : List Limit
  pub relations : List Relation

-- field i has the number n
abbrev exactly : (i n : ℕ) → List Limit
exactly i n = at_least i n ∷ at_most i n ∷ []

-- the n fields from i on are 0
unfoldable pub zeros : (i n : ℕ) → List Limit
zeros i zero = []
zeros i (suc n) = at_most i 0 ∷ zeros (suc i) n

-- "before fields and clock 0"
unfoldable pub nothing_before : List Limit
nothing_before = zeros before_field (record_fields - before_field)

-- columns 0 in the image whose fields start at i, as ABSENT has them
abbrev no_columns : ℕ → List Limit
no_columns i = zeros (i + 2) 2

-- "The before state is ABSENT or COMMITTED when the line is PREPARED .., and `-` otherwise." The kinds that have nothing before them come first, ABSENT first of
-- them, then those over ABSENT, then those over COMMITTED: a kind's number tells which relations it asks for.
unfoldable pub kinds : List LineKind
kinds =
    -- "ABSENT: every field after the state word is 0", but "ABSENT lines may now carry both" version and TxID
    record { state = Absent; prior = Was.Nothing; limits = no_columns image_field ++ nothing_before; relations = agree ∷ [] }
    -- "COMMITTED: version at least 1, before fields and clock 0"
    ∷ record { state = Committed; prior = Was.Nothing; limits = at_least image_field 1 ∷ nothing_before; relations = [] }
    -- "PREPARED: TxID at least 1, version = before version + 1", over an ABSENT image, which "has the same rule and columns 0"
    ∷ record { state = Prepared; prior = Was.Absent; limits = at_least txid_field 1 ∷ no_columns before_field; relations = follow ∷ agree_before ∷ [] }
    -- and over a COMMITTED one, which "has version at least 1"
    ∷ record { state = Prepared; prior = Was.Committed; limits = at_least txid_field 1 ∷ at_least before_field 1 ∷ []; relations = follow ∷ [] }
    ∷ []

-- what stands past the last row
abbrev pub no_kind : LineKind
no_kind = record { state = Absent; prior = Was.Nothing; limits = []; relations = [] }

abbrev pub kind_at : ℕ → LineKind
kind_at k = get_or kinds k no_kind

-- the limits of a kind, its two words among them
unfoldable pub kind_limits : LineKind → List Limit
kind_limits r = exactly state_field (state_number r.state) ++ (exactly before_state_field (before_number r.prior) ++ r.limits)

-- the record layout with the clock up to the widest figure, and the clock's bound
unfoldable pub open_layout : List Column
open_layout = set record_layout clock_field (opened (get_or record_layout clock_field no_column))

unfoldable pub clock_limit : List Limit
clock_limit = at_most clock_field 4294967295 ∷ []

unfoldable pub kind_parts : LineKind → List Part
kind_parts r = layout_parts (limited (kind_limits r) open_layout)

-- What is computed of them.

pub kind_says : (k : ℕ) → k < length kinds → says (kind_limits (kind_at k)) open_layout ≡ true
unfolding says all sayable all_narrow narrows limited narrowed kind_limits kinds zeros nothing_before state_number before_number open_layout opened record_layout in_range column_ok words all_below word_ok is_the field_value field_bytes word_from bytes
kind_says k l = all_at (λ (r : LineKind). says (kind_limits r) open_layout) kinds no_kind k refl l

pub record_opens : all opens record_layout ≡ true
unfolding all opens opened record_layout column_ok words all_below word_ok is_the field_value field_bytes word_from bytes
record_opens = refl

pub clock_narrow : all_narrow clock_limit open_layout ≡ true
unfolding all_narrow narrows limited narrowed clock_limit open_layout opened record_layout
clock_narrow = refl

pub clock_limited : limited clock_limit open_layout ≡ record_layout
unfolding limited narrowed clock_limit open_layout opened record_layout
clock_limited = refl

-- what kind k asks for besides its limits, by the bytes of a line and by its numbers
unfoldable pub asked : ℕ → List ℕ → Bool
asked k line = all (holds_on line) (kind_at k).relations

abbrev pub row_asked : ℕ → List ℕ → Bool
row_asked k v = all (holds_in v) (kind_at k).relations

-- by the kind's number, as the code tests it: with nothing before the line, and with an image before it
pub asked_alone : (k : ℕ) (line : List ℕ) → k < 2 → asked k line ≡ (not (eqb k 0) || zeros_agree version_at line)
unfolding asked all kinds holds_on
asked_alone zero line l = and-true (zeros_agree version_at line)
asked_alone (suc zero) line l = refl
asked_alone (suc (suc k)) line l = absurd (omega arith)

pub asked-over : (k : ℕ) (line : List ℕ) → 2 ≤ k → k < length kinds → asked k line ≡ (follows line && (leb 3 k || zeros_agree before_at line))
unfolding asked all kinds holds_on
asked-over zero line l m = absurd (omega arith)
asked-over (suc zero) line l m = absurd (omega arith)
asked-over (suc (suc zero)) line l m = ap (λ (x : Bool). follows line && x) (and-true (zeros_agree before_at line))
asked-over (suc (suc (suc zero))) line l m = refl
asked-over (suc (suc (suc (suc k)))) line l m = absurd (omega arith)

-- The words of the kinds, and the kind by the numbers of a line.

-- the state word of kind k, and its before state
abbrev pub kind_word : ℕ → List ℕ
kind_word k = word_at StateWord (state_number (kind_at k).state)

abbrev pub prior_word : ℕ → List ℕ
prior_word k = word_at BeforeWord (before_number (kind_at k).prior)

-- the first eight bytes of state word s as one number
abbrev pub state_front : ℕ → ℕ
state_front s = loaded (take 8 (word_at StateWord s))

-- the byte of before state b that tells COMMITTED from the others
abbrev pub prior_mark : ℕ → ℕ
prior_mark b = get_or (word_at BeforeWord b) 3 0

-- The number of the kind whose words have these bytes. Two words that no kind has get the number of some kind too, and differ from its words.
unfoldable pub kind_told : (front mark : ℕ) → ℕ
kind_told front mark = bit (eqb front (state_front 1)) + bit (eqb front (state_front 2)) * 2 + bit (eqb mark (prior_mark 2))

pub told-few : (front mark : ℕ) → kind_told front mark < length kinds
unfolding kinds kind_told loaded words bytes
told-few front mark =
    choose_by (λ (x : ℕ). x + bit (eqb front (state_front 2)) * 2 + over < length kinds) (eqb front (state_front 1))
    (λ e. rw (eqb-true front (state_front 1) e) (omega (arith, one)))
    (λ e. choose_by (λ (x : ℕ). 0 + x * 2 + over < length kinds) (eqb front (state_front 2)) (λ f. omega (arith, one)) (λ f. omega (arith, one)))
  where
    over : ℕ
    over = bit (eqb mark (prior_mark 2))

    one : over ≤ 1
    one = choose_by (λ (x : ℕ). x ≤ 1) (eqb mark (prior_mark 2)) (λ e. omega arith) (λ e. omega arith)

-- the kind of a line with state word s and before state b, if it is good
unfoldable pub kind_for : (s b : ℕ) → ℕ
kind_for s b = kind_told (state_front s) (prior_mark b)

-- the rule that a row of numbers keeps by its state
abbrev pub rule : List ℕ → Bool
rule v = state_rule (record_of v)

exact : (x n : ℕ) → eqb x n ≡ (leb n x && leb x n)
exact x n =
    same_test (eqb x n) (leb n x && leb x n)
    (λ e. let q : x ≡ n = eqb-true x n e in and_both (le-leb n x (omega arith)) (le-leb x n (omega arith)))
    (λ e. let l : n ≤ x = search tests in let g : x ≤ n = search tests in eq-eqb x n (omega arith))

-- tests of a number as limits, and conjunctions nested as `all` nests them
ruleset asLimits = (exact, leb-zero, leb-suc-zero, and_assoc, and-true, and-false)

-- the rule of each state as the limits and relations of the line's kind; false, where the kind has not both of the line's words
module _ (v : List ℕ) where
  Ruled : (s b : ℕ) → Type 0
  Ruled s b = rule v ≡ (all (keeps v) (kind_limits (kind_at (kind_for s b))) && row_asked (kind_for s b) v)

  -- columns 0 in the image whose numbers start at i
  columnless : ℕ → Bool
  columnless i = eqb (get_or v (i + 2) 0) 0 && eqb (get_or v (i + 3) 0) 0

  -- Limits come before relations, which the rules have between them.

  absence-moved : (i : ℕ) → absence (image_from i v) ≡ (columnless i && numbers_agree i v)
  unfolding absence image_from columnless
  absence-moved i = last (numbers_agree i v) (eqb (get_or v (i + 2) 0) 0) (eqb (get_or v (i + 3) 0) 0)
    where
      last : (a b c : Bool) → (a && b && c) ≡ (b && c && a)
      last true b c = sym (and-true (b && c))
      last false b c = sym (and-false (b && c))

  absent_moved : absent_rule (record_of v) ≡ (columnless image_field && no_before (record_of v) && numbers_agree image_field v)
  unfolding record_of absent_rule
  absent_moved =
      ap (λ (x : Bool). x && no_before (record_of v)) (absence-moved image_field)
      ∙ and_move (columnless image_field) (numbers_agree image_field v) (no_before (record_of v))

  prepared-moved : prepared_rule (record_of v) ≡ (leb 1 (get_or v txid_field 0) && before_rule (record_of v) && version_follows v)
  unfolding record_of image_from prepared_rule
  prepared-moved = and_move (leb 1 (get_or v txid_field 0)) (version_follows v) (before_rule (record_of v))

  -- over an ABSENT image
  over-moved : get_or v before_state_field 0 ≡ 1
      → prepared_rule (record_of v) ≡ (leb 1 (get_or v txid_field 0) && columnless before_field && (version_follows v && numbers_agree before_field v))
  unfolding before_of record_of image_from prepared_rule before_rule
  over-moved g =
      rw g
      (ap (λ (x : Bool). leb 1 (get_or v txid_field 0) && version_follows v && x) (absence-moved before_field)
      ∙ and_swap (leb 1 (get_or v txid_field 0)) (version_follows v) (columnless before_field) (numbers_agree before_field v))

  by_numbers : (s b : ℕ) → get_or v state_field 0 ≡ s → get_or v before_state_field 0 ≡ b → s < length (words StateWord) → b < length (words BeforeWord) → Ruled s b
  unfolding state_of before_of record_of image_from is_zero no_before absent_rule committed_rule before_rule prepared_rule all keeps holds_in columnless kind_limits kinds zeros nothing_before state_number before_number kind_for kind_told loaded words bytes Ruled
  by_numbers zero zero e g l m = rw (e, absent_moved, g) (simp asLimits)
  by_numbers zero (suc zero) e g l m = rw (e, absent_moved, g) (simp asLimits)
  by_numbers zero (suc (suc zero)) e g l m = rw (e, absent_moved, g) (simp asLimits)
  by_numbers (suc zero) zero e g l m = rw (e, g) (simp asLimits)
  by_numbers (suc zero) (suc zero) e g l m = rw (e, g) (simp asLimits)
  by_numbers (suc zero) (suc (suc zero)) e g l m = rw (e, g) (simp asLimits)
  by_numbers (suc (suc zero)) zero e g l m = rw (e, prepared-moved, g) (simp asLimits)
  by_numbers (suc (suc zero)) (suc zero) e g l m = rw (e, over-moved g, g) (simp asLimits)
  by_numbers (suc (suc zero)) (suc (suc zero)) e g l m = rw (e, prepared-moved, g) (simp asLimits)
  by_numbers zero (suc (suc (suc b))) e g l m = absurd (omega arith)
  by_numbers (suc zero) (suc (suc (suc b))) e g l m = absurd (omega arith)
  by_numbers (suc (suc zero)) (suc (suc (suc b))) e g l m = absurd (omega arith)
  by_numbers (suc (suc (suc s))) b e g l m = absurd (omega arith)

  -- with the clock's bound
  pub kind_rule : get_or v state_field 0 < length (words StateWord) → get_or v before_state_field 0 < length (words BeforeWord)
      → let k = kind_for (get_or v state_field 0) (get_or v before_state_field 0) in
      (rule v && all (keeps v) clock_limit) ≡ (all (keeps v) (kind_limits (kind_at k)) && (row_asked k v && leb (get_or v clock_field 0) 4294967295))
  unfolding all keeps clock_limit Ruled
  kind_rule l m =
      let k = kind_for (get_or v state_field 0) (get_or v before_state_field 0) in
      ap₂ ◌&&◌ (by_numbers (get_or v state_field 0) (get_or v before_state_field 0) refl refl l m) (and-true (leb (get_or v clock_field 0) 4294967295))
      ∙ and_assoc (all (keeps v) (kind_limits (kind_at k))) (row_asked k v) (leb (get_or v clock_field 0) 4294967295)
