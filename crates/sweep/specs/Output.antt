-- What the visiting program's work answers and leaves in lent memory, and how its parts come together.
use Rattle.std.specs.Prelude.{◌≡◌, ◌+◌, ◌-◌, ◌≤◌, ◌<◌, ◌&&◌, ◌∷◌, ◌++◌}
use Rattle.std.proofs.Common.{◌∙◌}
use Rattle.lists.specs.Basics.{refl, sym, ap, ap₂, ℕ, eqb, leb, Bool, true, false, cond, and-false, List, []}
use Rattle.lists.specs.Basics.{append_assoc, length, take, drop, length-append, length-take, length-drop, drop-drop, drop_at, take_at, arith, le-leb, lt-leb}
use Rattle.lists.specs.Basics.{bytes, and_both}
use Rattle.decimal.specs.Field.{field_text}
use Rattle.decimal.specs.Word.{put_word, put_fits_lem}
use Rattle.model.specs.Layouts.{most_coordinator_bytes, most_record_bytes}
use Rattle.model.specs.Refusals.{refusal_of}
use Rattle.model.specs.ByteHistories.{Bytes}
use Rattle.model.specs.Visitor.{first_number, coordinator_size, input_conditions, input_sheets, swept, printed, refused_text, visitor_output, first_bytes}
use Rattle.sweep.specs.Passes.{both}
use Rattle.sweep.specs.FirstLine.{first_of, records_from, coordinator-part, records-part}
use Rattle.sweep.specs.Sizes.{Parts, parts}

-- the sheets of an input, as the visits leave them
abbrev pub visited_sheets : List ℕ → Bytes
visited_sheets input = swept (first_number 2 input) (input_sheets input)

-- both sheets, the largest
abbrev pub most_output : ℕ
most_output = most_record_bytes + most_coordinator_bytes

-- room for the largest record sheet (500 lines), and for both sheets at their largest (999 coordinator lines and the head)
abbrev pub has_room : List ℕ → List ℕ → Bool
has_room work output = leb most_record_bytes (length work) && leb most_output (length output)

-- t over the first elements of s
abbrev pub onto : List ℕ → List ℕ → List ℕ
onto t s = t ++ drop (length t) s

-- the length of the output, 0 where there is no room
unfoldable pub answered : List ℕ → List ℕ → List ℕ → ℕ
answered input work output = cond (has_room work output) (length (visitor_output input)) 0

-- the lent output: it begins with what the program prints
unfoldable pub output_after : List ℕ → List ℕ → List ℕ → List ℕ
output_after input work output = cond (has_room work output) (onto (visitor_output input) output) output

-- the lent work area: it begins with the record sheet as the visits leave it, if there were any
unfoldable pub work_after : List ℕ → List ℕ → List ℕ → List ℕ
work_after input work output = cond (has_room work output && eqb (refusal_of (input_conditions input)) 0) (onto (visited_sheets input).records work) work

-- two slices of the lengths of an accepted input's sheets
pub record Loaded (input records coordinator : List ℕ) : Type 0 where
  pub accepted : refusal_of (input_conditions input) ≡ 0
  pub lines : length records ≡ length (input_sheets input).records
  pub decisions : length coordinator ≡ coordinator_size input

-- an accepted input, and room
pub record Target (input work output : List ℕ) : Type 0 where
  pub accepted : refusal_of (input_conditions input) ≡ 0
  pub work_room : most_record_bytes ≤ length work
  pub output_room : most_output ≤ length output

-- bytes put over as many
pub put_part : (s t u : List ℕ) → t ≡ u → length s ≡ length u → put_word s t ≡ u
put_part s t u e l = put_fits_lem s t (l ∙ ap length (sym e)) ∙ e

-- both slices, with the parts of the input put over them
pub loaded : (input rs cs rs' cs' : List ℕ) (n : ℕ) → Loaded input rs cs → n ≡ records_from (first_of input) → rs' ≡ put_word rs (take (length input - n) (drop n input)) → cs' ≡ put_word cs (take (n - first_bytes) (drop first_bytes input)) → both rs' cs' ≡ input_sheets input
loaded input rs cs rs' cs' n h e p q =
    let a = parts input n e h.accepted in
    let l : length cs ≡ length (input_sheets input).coordinator = h.decisions ∙ sym (simp (length-take, length-drop) (omega arith)) in
    let r = p ∙ put_part rs _ (input_sheets input).records (records-part input n e) h.lines in
    let c = q ∙ put_part cs _ (input_sheets input).coordinator (coordinator-part input n e) l in
    λ i. record { records = r i; coordinator = c i }

-- the line of a refusal, made as w in its text and put over the beginning
pub refusal_printed : (n : ℕ) (w p output : List ℕ) → 11 ≤ length output → length w ≡ 3 → w ≡ field_text 3 n → p ≡ put_word (take 11 output) (bytes "REFUSED" ++ (w ++ 10 ∷ [])) → (11 ≡ length (refused_text n)) × (p ++ drop 11 output ≡ onto (refused_text n) output)
unfolding bytes
refusal_printed n w p output l k e q =
    let t : bytes "REFUSED" ++ (w ++ 10 ∷ []) ≡ refused_text n = ap (λ (x : List ℕ). bytes "REFUSED" ++ (x ++ 10 ∷ [])) e in
    let m : length (refused_text n) ≡ 11 = ap length (sym t) ∙ long k in
    let f : length (take 11 output) ≡ length (refused_text n) = simp length-take (omega arith) in (
      sym m,
      ap₂ ◌++◌ (q ∙ put_part (take 11 output) _ (refused_text n) t f) (ap (λ (j : ℕ). drop j output) (sym m)),
    )
  where
    long : length w ≡ 3 → length (bytes "REFUSED" ++ (w ++ 10 ∷ [])) ≡ 11
    long h = simp length-append (omega arith)

-- t in a lent beginning, and u put over the part after it
two-parts : (c n : ℕ) (t u v output : List ℕ) → length t ≡ c → length u ≡ n - c → n ≤ length output → c ≤ n → v ≡ put_word (take (n - c) (drop c (t ++ drop c output))) u → take c (t ++ drop c output) ++ (v ++ drop (n - c) (drop c (t ++ drop c output))) ≡ onto (t ++ u) output
two-parts c n t u v output a b f g p =
    let d : drop c (t ++ drop c output) ≡ drop c output = drop_at t (drop c output) c a in
    let k : length (take (n - c) (drop c (t ++ drop c output))) ≡ length u =
    ap (λ (x : List ℕ). length (take (n - c) x)) d ∙ simp (length-take, length-drop) (omega arith) in
    let q : v ≡ u = p ∙ put_part (take (n - c) (drop c (t ++ drop c output))) u u refl k in
    let m : length (t ++ u) ≡ c + (n - c) = length-append t u ∙ ap₂ ◌+◌ a b in
    let r : drop (n - c) (drop c (t ++ drop c output)) ≡ drop (length (t ++ u)) output =
    ap (drop (n - c)) d ∙ (drop-drop (n - c) c output ∙ ap (λ (j : ℕ). drop j output) (sym m)) in
    ap₂ ◌++◌ (take_at t (drop c output) c a) (ap₂ ◌++◌ q r) ∙ sym (append_assoc t u (drop (length (t ++ u)) output))

-- both sheets, which came back from their visits as rs and cs: rs is put after cs as v
module _ (input work output rs cs v : List ℕ) (n : ℕ) (p : Parts input n) (target : Target input work output) (wide-rs : length rs ≡ length (take (length input - n) work)) (wide-cs : length cs ≡ length (take (n - first_bytes) output)) where
  rs-length : length rs ≡ length input - n
  rs-length = wide-rs ∙ simp length-take (omega (arith, p.record_room, target.work_room))

  cs_length : length cs ≡ n - first_bytes
  cs_length = wide-cs ∙ simp length-take (omega (arith, p.coordinator_room, target.output_room))

  pub sheets-printed : rs ≡ (visited_sheets input).records → cs ≡ (visited_sheets input).coordinator → v ≡ put_word (take (n - first_bytes + (length input - n) - (n - first_bytes)) (drop (n - first_bytes) (cs ++ drop (n - first_bytes) output))) (take (length input - n) (rs ++ drop (length input - n) work)) → (n - first_bytes + (length input - n) ≡ length (printed (visited_sheets input))) × ((take (n - first_bytes) (cs ++ drop (n - first_bytes) output) ++ (v ++ drop (n - first_bytes + (length input - n) - (n - first_bytes)) (drop (n - first_bytes) (cs ++ drop (n - first_bytes) output))) ≡ onto (printed (visited_sheets input)) output) × (rs ++ drop (length input - n) work ≡ onto (visited_sheets input).records work))
  sheets-printed e f q =
      let k : length rs ≡ length input - n = rs-length in
      let j : length cs ≡ n - first_bytes = cs_length in
      let m : length rs ≡ n - first_bytes + (length input - n) - (n - first_bytes) = omega arith in
      let u : take (length input - n) (rs ++ drop (length input - n) work) ≡ rs = take_at rs (drop (length input - n) work) (length input - n) k in
      let g : n - first_bytes + (length input - n) ≤ length output = omega (arith, p.coordinator_room, p.record_room, target.output_room) in
      let w : v ≡ put_word (take (n - first_bytes + (length input - n) - (n - first_bytes)) (drop (n - first_bytes) (cs ++ drop (n - first_bytes) output))) rs =
      q ∙ ap (put_word _) u in (
        sym (length-append (visited_sheets input).coordinator (visited_sheets input).records ∙ ap₂ ◌+◌ (ap length (sym f) ∙ j) (ap length (sym e) ∙ k)),
        (
          two-parts (n - first_bytes) (n - first_bytes + (length input - n)) cs rs v output j m g (omega arith) w
              ∙ ap₂ (λ (x y : List ℕ). onto (x ++ y) output) f e,
          ap₂ (λ (x : List ℕ) (i : ℕ). x ++ drop i work) e (sym k ∙ ap length e),
        ),
      )

-- What is answered and left, case by case.
module _ (input work output : List ℕ) where
  pub record Left (r : ℕ) (output' work' : List ℕ) : Type 0 where
    pub answer : r ≡ answered input work output
    pub printed_bytes : output' ≡ output_after input work output
    pub work_bytes : work' ≡ work_after input work output

  no_room : has_room work output ≡ false → Left 0 output work
  unfolding answered output_after work_after
  no_room h = record { answer = rw h; printed_bytes = rw h; work_bytes = rw h }

  pub little_work : length work < most_record_bytes → Left 0 output work
  little_work l = no_room (ap (λ (b : Bool). b && leb most_output (length output)) (lt-leb most_record_bytes (length work) l))

  pub little_output : length output < most_output → Left 0 output work
  little_output l =
      no_room (ap (λ (b : Bool). leb most_record_bytes (length work) && b) (lt-leb most_output (length output) l) ∙ and-false (leb most_record_bytes (length work)))

  module _ (l : most_record_bytes ≤ length work) (m : most_output ≤ length output) where
    room : has_room work output ≡ true
    room = and_both (le-leb most_record_bytes (length work) l) (le-leb most_output (length output) m)

    pub left_refused : (n r : ℕ) (output' : List ℕ) → n ≡ refusal_of (input_conditions input) → eqb n 0 ≡ false → r ≡ length (refused_text n) → output' ≡ onto (refused_text n) output → Left r output' work
    unfolding answered output_after work_after visitor_output
    left_refused n r output' e h p q =
        let t : eqb (refusal_of (input_conditions input)) 0 ≡ false = ap (λ (i : ℕ). eqb i 0) (sym e) ∙ h in
        let a = room in
        record {
          answer = p ∙ (ap (λ (i : ℕ). length (refused_text i)) e ∙ rw (a, t));
          printed_bytes = q ∙ (ap (λ (i : ℕ). onto (refused_text i) output) e ∙ rw (a, t));
          work_bytes = rw (a, t);
        }

    pub left_accepted : (r : ℕ) (output' work' : List ℕ) → refusal_of (input_conditions input) ≡ 0 → r ≡ length (printed (visited_sheets input)) → output' ≡ onto (printed (visited_sheets input)) output → work' ≡ onto (visited_sheets input).records work → Left r output' work'
    unfolding answered output_after work_after visitor_output
    left_accepted r output' work' h p q w =
        let a = room in
        record { answer = p ∙ rw (a, h); printed_bytes = q ∙ rw (a, h); work_bytes = w ∙ rw (a, h) }

-- what is answered lies within the output: a caller prints that many bytes of it
pub answer-within : (input work output output' : List ℕ) (r : ℕ) → r ≡ answered input work output → output' ≡ output_after input work output → r ≤ length output'
unfolding answered output_after
answer-within input work output output' r e f = go (has_room work output) e f
  where
    go : (b : Bool) → r ≡ cond b (length (visitor_output input)) 0 → output' ≡ cond b (onto (visitor_output input) output) output → r ≤ length output'
    go false p q = omega arith
    go true p q = omega (arith, ap length q ∙ length-append (visitor_output input) (drop (length (visitor_output input)) output))
