-- A record line changed in its bytes: other text over the state word, the image, the before state, the image before or the clock, each where its fields begin. A line
-- that can be read is the text of its record, and that text with a part written over is the text of the record with that part, whatever its numbers.
use Rattle.std.specs.Prelude.{◌≡◌, ◌+◌, ◌≤◌, ◌∷◌, ◌++◌}
use Rattle.std.proofs.Common.{◌∙◌}
use Rattle.lists.specs.Basics.{refl, sym, ap, ap₂, ℕ, Bool, true, false, cond, List, [], append-nil, append_assoc, length, take}
use Rattle.lists.specs.Basics.{drop, length-append, arith}
use Rattle.lists.specs.Pieces.{over, over_next}
use Rattle.decimal.specs.Field.{field_text}
use Rattle.decimal.specs.Laws.{length-field_text}
use Rattle.model.specs.Types.{Image, Record, State, Before, StateWord, BeforeWord}
use Rattle.types.specs.declared.State.TheVariants.{Committed, Prepared}
use Rattle.types.specs.declared.Before.TheVariants as Was
use Rattle.model.specs.Layouts.{record_layout, image_layout, word_at, state_field, image_field, before_state_field, before_field, clock_field, image_fields, record_offset, record_width}
use Rattle.model.specs.Layouts.{image_bytes, offset}
use Rattle.model.specs.Lines.{field_bytes, line_set}
use Rattle.model.specs.Records.{no_image, state_number, before_number, key_numbers, image_numbers, record_numbers, record_in, record_text}
use Rattle.model.specs.Images.{Change, written_image, state_kept, prepared, committed}
use Rattle.sheet_laws.specs.Spans.{fields_text, span_there, span_over, field_over}
use Rattle.sheet_laws.specs.Records.{record_wide, record_written_read}

-- the four fields of an image
abbrev pub image_text : Image → List ℕ
image_text m = fields_text image_layout (image_numbers m)

-- the text of nothing before, and a clock of 0: what stands behind the image of a line that isn't pending
abbrev pub nothing_text : List ℕ
nothing_text = fields_text (drop before_state_field record_layout) (before_number Was.Nothing ∷ image_numbers no_image ++ (0 ∷ []))

-- A line with other text over a part.

abbrev pub state_over : State → List ℕ → List ℕ
state_over s line = over line (record_offset state_field) (word_at StateWord (state_number s))

abbrev pub image_over : List ℕ → List ℕ → List ℕ
image_over t line = over line (record_offset image_field) t

abbrev pub prior_over : Before → List ℕ → List ℕ
prior_over b line = over line (record_offset before_state_field) (word_at BeforeWord (before_number b))

abbrev pub before_over : List ℕ → List ℕ → List ℕ
before_over t line = over line (record_offset before_field) t

-- from the before state on
abbrev pub settled_over : List ℕ → List ℕ → List ℕ
settled_over t line = over line (record_offset before_state_field) t

-- the figure v over field k
abbrev pub figure_over : ℕ → ℕ → List ℕ → List ℕ
figure_over k v line = over line (record_offset k) (field_text (record_width k) v)

-- one of a record's two images, that of before or its own, where it stands in the line, and the bytes there
abbrev pub image_of : Bool → Record → Image
image_of before r = cond before r.before r.image

abbrev pub image_offset : Bool → ℕ
image_offset before = cond before (record_offset before_field) (record_offset image_field)

abbrev pub image_in : Bool → List ℕ → List ℕ
image_in before line = take image_bytes (drop (image_offset before) line)

-- a record's key with other parts behind it
abbrev behind : Record → State → Image → Before → Image → ℕ → Record
behind r s m was b clock = record { key = r.key; state = s; image = m; prior = was; before = b; clock = clock }

-- the record with a state, one of its images and nothing before it
abbrev pub settled_as : State → Bool → Record → Record
settled_as state before r = behind r state (image_of before r) Was.Nothing no_image 0

-- The text of a record, and of the record with another part.
module _ (r : Record) where
  state_over_lem : (s : State) → state_over s (record_text r) ≡ record_text (behind r s r.image r.prior r.before r.clock)
  unfolding record_text record_layout record_numbers key_numbers image_numbers field_bytes over
  state_over_lem s = field_over state_field (state_number s) record_layout (record_numbers r) record_wide (omega arith) refl

  image_over_lem : (m : Image) → image_over (image_text m) (record_text r) ≡ record_text (behind r r.state m r.prior r.before r.clock)
  unfolding record_text record_layout record_numbers key_numbers image_layout image_numbers over
  image_over_lem m = span_over image_field record_layout (image_numbers m) (record_numbers r) record_wide (omega arith) refl

  prior_over_lem : (b : Before) → prior_over b (record_text r) ≡ record_text (behind r r.state r.image b r.before r.clock)
  unfolding record_text record_layout record_numbers key_numbers image_numbers field_bytes over
  prior_over_lem b = field_over before_state_field (before_number b) record_layout (record_numbers r) record_wide (omega arith) refl

  before_over_lem : (m : Image) → before_over (image_text m) (record_text r) ≡ record_text (behind r r.state r.image r.prior m r.clock)
  unfolding record_text record_layout record_numbers key_numbers image_layout image_numbers over
  before_over_lem m = span_over before_field record_layout (image_numbers m) (record_numbers r) record_wide (omega arith) refl

  clock_over : (v : ℕ) → figure_over clock_field v (record_text r) ≡ record_text (behind r r.state r.image r.prior r.before v)
  unfolding record_text record_layout record_numbers key_numbers image_numbers field_bytes over
  clock_over v = field_over clock_field v record_layout (record_numbers r) record_wide (omega arith) refl

  nothing_over : settled_over nothing_text (record_text r) ≡ record_text (behind r r.state r.image Was.Nothing no_image 0)
  unfolding record_text record_layout record_numbers key_numbers image_numbers over
  nothing_over = span_over before_state_field record_layout (before_number Was.Nothing ∷ image_numbers no_image ++ (0 ∷ [])) (record_numbers r) record_wide (omega arith) refl

  image-there : (before : Bool) → image_in before (record_text r) ≡ image_text (image_of before r)
  unfolding record_text record_layout record_numbers key_numbers image_layout image_numbers fields_text offset
  image-there true = span_there before_field image_fields record_layout (record_numbers r) record_wide (omega arith)
  image-there false = span_there image_field image_fields record_layout (record_numbers r) record_wide (omega arith)

-- the figures of an image, each behind the one before, are its text
pub image-written : (line : List ℕ) (m : Image) → record_offset image_field ≤ length line
    → figure_over (image_field + 3) m.column2 (figure_over (image_field + 2) m.column1 (figure_over (image_field + 1) m.txid (figure_over image_field m.version line)))
    ≡ image_over (image_text m) line
unfolding offset record_layout image_layout image_numbers fields_text field_bytes
image-written line m l =
    let a = field_text (record_width image_field) m.version in
    let b = field_text (record_width (image_field + 1)) m.txid in
    let c = field_text (record_width (image_field + 2)) m.column1 in
    let d = field_text (record_width (image_field + 3)) m.column2 in
    let na : length a ≡ record_width image_field = length-field_text (record_width image_field) m.version in
    let nb : length b ≡ record_width (image_field + 1) = length-field_text (record_width (image_field + 1)) m.txid in
    let nc : length c ≡ record_width (image_field + 2) = length-field_text (record_width (image_field + 2)) m.column1 in
    let x = over_next line a b (record_offset image_field) (record_offset (image_field + 1)) (omega arith) l in
    let y = over_next line (a ++ b) c (record_offset image_field) (record_offset (image_field + 2)) (simp length-append (omega arith)) l in
    let z = over_next line ((a ++ b) ++ c) d (record_offset image_field) (record_offset (image_field + 3)) (simp length-append (omega arith)) l in
    ap (λ (t : List ℕ). over (over t (record_offset (image_field + 2)) c) (record_offset (image_field + 3)) d) x
    ∙ (ap (λ (t : List ℕ). over t (record_offset (image_field + 3)) d) y
    ∙ (z ∙ ap (over line (record_offset image_field)) (simp (append_assoc, append-nil))))

-- A line that can be read, and the text of its record changed.
module _ (line : List ℕ) (set : line_set record_layout line ≡ true) where
  said : line ≡ record_text (record_in line)
  said = sym (record_written_read line set)

  -- a state, one of the line's images and nothing behind it
  pub line-settled : (state : State) (before : Bool)
      → settled_over nothing_text (state_over state (image_over (image_in before line) line)) ≡ record_text (settled_as state before (record_in line))
  line-settled state before =
      let r = record_in line in
      let m = image_of before r in
      let t = ap₂ image_over (ap (image_in before) said ∙ image-there r before) said ∙ image_over_lem r m in
      ap (λ (x : List ℕ). settled_over nothing_text (state_over state x)) t
      ∙ (ap (settled_over nothing_text) (state_over_lem (behind r r.state m r.prior r.before r.clock) state)
      ∙ nothing_over (behind r state m r.prior r.before r.clock))

  -- a new image behind the state word, and nothing behind it
  pub line-committed : (n : ℕ) (c : Change)
      → settled_over nothing_text (image_over (image_text (written_image n c (record_in line))) (state_over Committed line)) ≡ record_text (committed n c (record_in line))
  unfolding committed
  line-committed n c =
      let r = record_in line in
      let m = written_image n c r in
      let t = ap (state_over Committed) said ∙ state_over_lem r Committed in
      ap (λ (x : List ℕ). settled_over nothing_text (image_over (image_text m) x)) t
      ∙ (ap (settled_over nothing_text) (image_over_lem (behind r Committed r.image r.prior r.before r.clock) m)
      ∙ nothing_over (behind r Committed m r.prior r.before r.clock))

  -- the line's image moved, its state before it, a new image where it stood, and a clock
  pub line-prepared : (n now : ℕ) (c : Change)
      → figure_over clock_field now (image_over (image_text (written_image n c (record_in line))) (state_over Prepared (prior_over (state_kept (record_in line).state) (before_over (image_in false line) line))))
      ≡ record_text (prepared n now c (record_in line))
  unfolding prepared
  line-prepared n now c =
      let r = record_in line in
      let m = written_image n c r in
      let t = ap₂ before_over (ap (image_in false) said ∙ image-there r false) said ∙ before_over_lem r r.image in
      let b = state_kept r.state in
      ap (λ (x : List ℕ). figure_over clock_field now (image_over (image_text m) (state_over Prepared (prior_over b x)))) t
      ∙ (ap (λ (x : List ℕ). figure_over clock_field now (image_over (image_text m) (state_over Prepared x))) (prior_over_lem (behind r r.state r.image r.prior r.image r.clock) b)
      ∙ (ap (λ (x : List ℕ). figure_over clock_field now (image_over (image_text m) x)) (state_over_lem (behind r r.state r.image b r.image r.clock) Prepared)
      ∙ (ap (figure_over clock_field now) (image_over_lem (behind r Prepared r.image b r.image r.clock) m)
      ∙ clock_over (behind r Prepared m b r.image r.clock) now)))
