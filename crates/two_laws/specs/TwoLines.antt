-- One line of either sheet, filled and joined. A line of each kind is put together from the same parts: key k,
-- state, version and TxID m, columns c, rest r, end e.
use Rattle.std.specs.Prelude.{◌+◌, ◌≡◌, ◌&&◌, ◌∷◌, ◌++◌}
use Rattle.std.proofs.Common.{◌∙◌}
use Rattle.lists.specs.Basics.{ℕ, refl, sym, ap, ap₂, Bool, true, List, [], append_assoc, arith, length, take, drop, get_or}
use Rattle.lists.specs.Basics.{length-take, length-drop, length-append, drop-drop, take-add, take_at, drop_at, and_fst, and_snd, and_both, bytes, eq_list}
use Rattle.lists.specs.Basics.{eq_list-true, eq_list_refl}
use Rattle.std.proofs.Math.ListN.{take-append-drop}
use Rattle.decimal.specs.Field.{figure, within, scanned, stepped, number, is_number}
use Rattle.types.specs.declared.State.TheVariants.{Committed}
use Rattle.types.specs.declared.Before.TheVariants as Was
use Rattle.model.specs.Types.{Column, Record}
use Rattle.model.specs.Layouts.{record_layout, key_layout, image_layout, columns_layout, before_state_field, record_bytes, words, key_bytes}
use Rattle.model.specs.Lines.{field_value, word_from, row_of, line_set}
use Rattle.model.specs.Records.{state_of, before_of, key_of, image_from, no_image, record_in, record_of}
use Rattle.model.specs.TwoSheets.{plain_layout, bookkeeping_layout, plain_bytes, bookkeeping_bytes, state_bytes, columns_bytes, columns_in, end_of, join_line, plain_line}
use Rattle.model.specs.TwoSheets.{bookkeeping_line, plain_said, bookkeeping_said, plain_record, bookkeeping_record}
use Rattle.two_laws.specs.Deciding.{keys_agree, fixed_state, fixed_columns, fixed_rest, fill_plain, fill_bookkeeping}
use Rattle.two_laws.specs.Parts.{fields_bytes, fields_set, set-append, row-append}

-- state, version and TxID; the fields behind the columns
abbrev pub state_layout : List Column
state_layout = take 3 (drop 5 record_layout)

abbrev pub rest_layout : List Column
rest_layout = drop before_state_field record_layout

-- what the rows of a line's parts say
unfoldable pub parts_said : List ℕ → List ℕ → List ℕ → List ℕ → Record
parts_said k m c r =
    record {
      key = key_of k;
      state = state_of (get_or m 0 0);
      image = record { version = get_or m 1 0; txid = get_or m 2 0; column1 = get_or c 0 0; column2 = get_or c 1 0 };
      prior = before_of (get_or r 0 0);
      before = image_from 1 r;
      clock = get_or r 5 0;
    }

abbrev pub parts_record : List ℕ → List ℕ → List ℕ → List ℕ → Record
parts_record k m c r = parts_said (row_of key_layout k) (row_of state_layout m) (row_of columns_layout c) (row_of rest_layout r)

-- a record as the plain sheet has it, and as the bookkeeping sheet does
abbrev pub plain_of : Record → Record
plain_of r =
    record {
      key = r.key;
      state = Committed;
      image = record { version = 1; txid = 0; column1 = r.image.column1; column2 = r.image.column2 };
      prior = Was.Nothing;
      before = no_image;
      clock = 0;
    }

abbrev pub bookkeeping_of : Record → Record
bookkeeping_of r =
    record {
      key = r.key;
      state = r.state;
      image = record { version = r.image.version; txid = r.image.txid; column1 = 0; column2 = 0 };
      prior = r.prior;
      before = r.before;
      clock = r.clock;
    }

-- The parts of each kind of line.
module _ (k m c r e : List ℕ) (a : length k ≡ key_bytes) (b : length m ≡ state_bytes) (d : length c ≡ columns_bytes) where
  pub record_set : line_set record_layout (k ++ (m ++ (c ++ r))) ≡ (fields_set key_layout k && (fields_set state_layout m && (fields_set columns_layout c && line_set rest_layout r)))
  unfolding record_layout key_layout columns_layout image_layout fields_bytes
  record_set =
      set-append key_layout (state_layout ++ (columns_layout ++ rest_layout)) k (m ++ (c ++ r)) a
      ∙ ap (λ (x : Bool). fields_set key_layout k && x)
      (set-append state_layout (columns_layout ++ rest_layout) m (c ++ r) b
      ∙ ap (λ (x : Bool). fields_set state_layout m && x) (set-append columns_layout rest_layout c r d))

  record_row : row_of record_layout (k ++ (m ++ (c ++ r))) ≡ row_of key_layout k ++ (row_of state_layout m ++ (row_of columns_layout c ++ row_of rest_layout r))
  unfolding record_layout key_layout columns_layout image_layout fields_bytes
  record_row =
      row-append key_layout (state_layout ++ (columns_layout ++ rest_layout)) k (m ++ (c ++ r)) a
      ∙ ap (λ (x : List ℕ). row_of key_layout k ++ x)
      (row-append state_layout (columns_layout ++ rest_layout) m (c ++ r) b
      ∙ ap (λ (x : List ℕ). row_of state_layout m ++ x) (row-append columns_layout rest_layout c r d))

  pub record_of-parts : record_in (k ++ (m ++ (c ++ r))) ≡ parts_record k m c r
  unfolding record_in record_of parts_said key_of image_from row_of record_layout key_layout columns_layout image_layout
  record_of-parts = ap record_of record_row

  pub plain-set : line_set plain_layout (k ++ (c ++ e)) ≡ (fields_set key_layout k && (fields_set columns_layout c && line_set [] e))
  unfolding plain_layout record_layout key_layout columns_layout image_layout fields_bytes
  plain-set =
      set-append key_layout columns_layout k (c ++ e) a
      ∙ ap (λ (x : Bool). fields_set key_layout k && x) (set-append columns_layout [] c e d)

  plain_row : row_of plain_layout (k ++ (c ++ e)) ≡ row_of key_layout k ++ (row_of columns_layout c ++ [])
  unfolding plain_layout record_layout key_layout columns_layout image_layout fields_bytes row_of
  plain_row =
      row-append key_layout columns_layout k (c ++ e) a
      ∙ ap (λ (x : List ℕ). row_of key_layout k ++ x) (row-append columns_layout [] c e d)

  pub bookkeeping-set : line_set bookkeeping_layout (k ++ (m ++ r)) ≡ (fields_set key_layout k && (fields_set state_layout m && line_set rest_layout r))
  unfolding bookkeeping_layout record_layout key_layout fields_bytes
  bookkeeping-set =
      set-append key_layout (state_layout ++ rest_layout) k (m ++ r) a
      ∙ ap (λ (x : Bool). fields_set key_layout k && x) (set-append state_layout rest_layout m r b)

  bookkeeping-row : row_of bookkeeping_layout (k ++ (m ++ r)) ≡ row_of key_layout k ++ (row_of state_layout m ++ row_of rest_layout r)
  unfolding bookkeeping_layout record_layout key_layout fields_bytes
  bookkeeping-row =
      row-append key_layout (state_layout ++ rest_layout) k (m ++ r) a
      ∙ ap (λ (x : List ℕ). row_of key_layout k ++ x) (row-append state_layout rest_layout m r b)

  pub plain_of-parts : plain_record (k ++ (c ++ e)) ≡ plain_of (parts_record k m c r)
  unfolding plain_record plain_said parts_said key_of row_of record_layout key_layout columns_layout image_layout
  plain_of-parts = ap plain_said plain_row

  pub bookkeeping_of-parts : bookkeeping_record (k ++ (m ++ r)) ≡ bookkeeping_of (parts_record k m c r)
  unfolding bookkeeping_record bookkeeping_said parts_said key_of image_from row_of record_layout key_layout
  bookkeeping_of-parts = ap bookkeeping_said bookkeeping-row

-- The fixed text can be read, whatever stands beside it.
state_fixed : fields_set state_layout fixed_state ≡ true
unfolding fixed_state fields_set record_layout field_value word_from words bytes figure within scanned stepped
state_fixed = refl

state_fixed_row : row_of state_layout fixed_state ≡ 1 ∷ 1 ∷ 0 ∷ []
unfolding fixed_state row_of record_layout field_value word_from words bytes figure within scanned stepped
state_fixed_row = refl

rest-fixed : fields_set rest_layout fixed_rest ≡ true
unfolding fixed_rest fields_set record_layout field_value word_from words bytes figure within scanned stepped
rest-fixed = refl

-- nothing before: every number is 0
abbrev pub no_rest : List ℕ
no_rest = 0 ∷ 0 ∷ 0 ∷ 0 ∷ 0 ∷ 0 ∷ []

rest-fixed-row : row_of rest_layout fixed_rest ≡ no_rest
unfolding fixed_rest row_of record_layout field_value word_from words bytes figure within scanned stepped
rest-fixed-row = refl

rest-fixed-set : (e : List ℕ) → line_set rest_layout (fixed_rest ++ e) ≡ line_set [] e
unfolding fixed_rest record_layout fields_bytes bytes
rest-fixed-set e =
    set-append rest_layout [] fixed_rest e refl ∙ ap (λ (y : Bool). y && line_set [] e) rest-fixed

rest-fixed-all : (e : List ℕ) → row_of rest_layout (fixed_rest ++ e) ≡ no_rest
unfolding fixed_rest record_layout fields_bytes bytes row_of
rest-fixed-all e =
    row-append rest_layout [] fixed_rest e refl ∙ ap (λ (y : List ℕ). y ++ []) rest-fixed-row

columns-fixed : fields_set columns_layout fixed_columns ≡ true
unfolding fixed_columns fields_set record_layout image_layout columns_layout field_value bytes figure within scanned stepped
columns-fixed = refl

columns-fixed-row : row_of columns_layout fixed_columns ≡ 0 ∷ 0 ∷ []
unfolding fixed_columns row_of record_layout image_layout columns_layout field_value bytes figure within scanned stepped
columns-fixed-row = refl

-- Either line is its parts.

plain-cut : (p : List ℕ) → take key_bytes p ++ (columns_in p ++ end_of p) ≡ p
plain-cut p =
    ap (λ (t : List ℕ). take key_bytes p ++ (columns_in p ++ t)) (sym (drop-drop columns_bytes key_bytes p))
    ∙ (ap (λ (t : List ℕ). take key_bytes p ++ t) (take-append-drop columns_bytes (drop key_bytes p)) ∙ take-append-drop key_bytes p)

-- state, version and TxID of a bookkeeping line, and its fields behind them
abbrev state_in : List ℕ → List ℕ
state_in b = take state_bytes (drop key_bytes b)

abbrev rest_in : List ℕ → List ℕ
rest_in b = drop (key_bytes + state_bytes) b

front : (b x : List ℕ) → take (key_bytes + state_bytes) b ++ x ≡ take key_bytes b ++ (state_in b ++ x)
front b x = ap (λ (t : List ℕ). t ++ x) (take-add key_bytes state_bytes b) ∙ append_assoc (take key_bytes b) (state_in b) x

bookkeeping-cut : (b : List ℕ) → take key_bytes b ++ (state_in b ++ rest_in b) ≡ b
bookkeeping-cut b = sym (front b (rest_in b)) ∙ take-append-drop (key_bytes + state_bytes) b

-- A plain line, filled: it reads as a record line exactly if it reads as a plain line, and the record is the same.
module _ (p : List ℕ) (h : length p ≡ plain_bytes) where
  pub key_wide : length (take key_bytes p) ≡ key_bytes
  key_wide = simp length-take (omega arith)

  pub columns_wide : length (columns_in p) ≡ columns_bytes
  columns_wide = simp (length-take, length-drop) (omega arith)

  pub length-fill_plain : length (fill_plain p) ≡ record_bytes
  unfolding fill_plain fixed_state fixed_rest bytes
  length-fill_plain = simp (length-append, length-take, length-drop) (omega arith)

  pub filled_plain_key : take key_bytes (fill_plain p) ≡ take key_bytes p
  unfolding fill_plain
  filled_plain_key =
      take_at (take key_bytes p) (fixed_state ++ (columns_in p ++ (fixed_rest ++ end_of p))) key_bytes key_wide

  pub filled_plain-set : line_set record_layout (fill_plain p) ≡ line_set plain_layout p
  unfolding fill_plain
  filled_plain-set =
      let k = take key_bytes p in
      let c = columns_in p in
      let e = end_of p in
      let m = fixed_state in
      let r = fixed_rest in
      let n : length m ≡ state_bytes = unfold fixed_state bytes in refl in
      record_set k m c (r ++ e) e key_wide n columns_wide
      ∙ (ap₂ (λ (y z : Bool). fields_set key_layout k && (y && (fields_set columns_layout c && z))) state_fixed (rest-fixed-set e)
      ∙ (sym (plain-set k m c r e key_wide n columns_wide) ∙ ap (line_set plain_layout) (plain-cut p)))

  pub filled-plain_record : record_in (fill_plain p) ≡ plain_record p
  unfolding fill_plain
  filled-plain_record =
      let k = take key_bytes p in
      let c = columns_in p in
      let e = end_of p in
      let m = fixed_state in
      let r = fixed_rest in
      let n : length m ≡ state_bytes = unfold fixed_state bytes in refl in
      record_of-parts k m c (r ++ e) e key_wide n columns_wide
      ∙ (fixed k c (r ++ e) (rest-fixed-all e)
      ∙ (sym (plain_of-parts k m c (r ++ e) e key_wide n columns_wide) ∙ ap plain_record (plain-cut p)))
    where
      fixed : (k c t : List ℕ) → row_of rest_layout t ≡ no_rest → parts_record k fixed_state c t ≡ plain_of (parts_record k fixed_state c t)
      fixed k c t x =
          unfold parts_said image_from state_of before_of in
          ap₂ (λ (v w : List ℕ). parts_said (row_of key_layout k) v (row_of columns_layout c) w) state_fixed_row x

-- A bookkeeping line, filled: likewise.
module _ (b : List ℕ) (h : length b ≡ bookkeeping_bytes) where
  pub book_key_wide : length (take key_bytes b) ≡ key_bytes
  book_key_wide = simp length-take (omega arith)

  pub state_wide : length (state_in b) ≡ state_bytes
  state_wide = simp (length-take, length-drop) (omega arith)

  pub length-fill_bookkeeping : length (fill_bookkeeping b) ≡ record_bytes
  unfolding fill_bookkeeping fixed_columns bytes
  length-fill_bookkeeping = simp (length-append, length-take, length-drop) (omega arith)

  pub filled_bookkeeping_key : take key_bytes (fill_bookkeeping b) ≡ take key_bytes b
  unfolding fill_bookkeeping
  filled_bookkeeping_key =
      ap (take key_bytes) (front b (fixed_columns ++ rest_in b))
      ∙ take_at (take key_bytes b) (state_in b ++ (fixed_columns ++ rest_in b)) key_bytes book_key_wide

  pub filled_bookkeeping-set : line_set record_layout (fill_bookkeeping b) ≡ line_set bookkeeping_layout b
  unfolding fill_bookkeeping
  filled_bookkeeping-set =
      let k = take key_bytes b in
      let m = state_in b in
      let r = rest_in b in
      let c = fixed_columns in
      let n : length c ≡ columns_bytes = unfold fixed_columns bytes in refl in
      ap (line_set record_layout) (front b (c ++ r))
      ∙ (record_set k m c r r book_key_wide state_wide n
      ∙ (ap (λ (y : Bool). fields_set key_layout k && (fields_set state_layout m && (y && line_set rest_layout r))) columns-fixed
      ∙ (sym (bookkeeping-set k m c r r book_key_wide state_wide n) ∙ ap (line_set bookkeeping_layout) (bookkeeping-cut b))))

  pub filled-bookkeeping_record : record_in (fill_bookkeeping b) ≡ bookkeeping_record b
  unfolding fill_bookkeeping
  filled-bookkeeping_record =
      let k = take key_bytes b in
      let m = state_in b in
      let r = rest_in b in
      let c = fixed_columns in
      let n : length c ≡ columns_bytes = unfold fixed_columns bytes in refl in
      ap record_in (front b (c ++ r))
      ∙ (record_of-parts k m c r r book_key_wide state_wide n
      ∙ (fixed k m r
      ∙ (sym (bookkeeping_of-parts k m c r r book_key_wide state_wide n) ∙ ap bookkeeping_record (bookkeeping-cut b))))
    where
      fixed : (k m r : List ℕ) → parts_record k m fixed_columns r ≡ bookkeeping_of (parts_record k m fixed_columns r)
      fixed k m r =
          unfold parts_said in
          ap (λ (v : List ℕ). parts_said (row_of key_layout k) (row_of state_layout m) v (row_of rest_layout r)) columns-fixed-row

-- A line joined.
module _ (p b : List ℕ) (h : length p ≡ plain_bytes) (g : length b ≡ bookkeeping_bytes) where
  join_parts : join_line p b ≡ take key_bytes b ++ (state_in b ++ (columns_in p ++ rest_in b))
  unfolding join_line
  join_parts = front b (columns_in p ++ rest_in b)

  pub length-join_line : length (join_line p b) ≡ record_bytes
  unfolding join_line
  length-join_line = simp (length-append, length-take, length-drop) (omega arith)

  -- the parts of the joined line's rule
  joined-set : line_set record_layout (join_line p b) ≡ (fields_set key_layout (take key_bytes b) && (fields_set state_layout (state_in b) && (fields_set columns_layout (columns_in p) && line_set rest_layout (rest_in b))))
  joined-set =
      ap (line_set record_layout) join_parts
      ∙ record_set (take key_bytes b) (state_in b) (columns_in p) (rest_in b) [] (book_key_wide b g) (state_wide b g) (columns_wide p h)

  joined_record : record_in (join_line p b) ≡ parts_record (take key_bytes b) (state_in b) (columns_in p) (rest_in b)
  joined_record =
      ap record_in join_parts
      ∙ record_of-parts (take key_bytes b) (state_in b) (columns_in p) (rest_in b) [] (book_key_wide b g) (state_wide b g) (columns_wide p h)

  pub joined-bookkeeping_record : bookkeeping_record b ≡ bookkeeping_of (record_in (join_line p b))
  joined-bookkeeping_record =
      ap bookkeeping_record (sym (bookkeeping-cut b))
      ∙ (bookkeeping_of-parts (take key_bytes b) (state_in b) (columns_in p) (rest_in b) [] (book_key_wide b g) (state_wide b g) (columns_wide p h)
      ∙ ap (λ (r : Record). bookkeeping_of r) (sym joined_record))

  pub joined-bookkeeping-set : line_set record_layout (join_line p b) ≡ true → line_set bookkeeping_layout b ≡ true
  joined-bookkeeping-set x =
      let y = sym joined-set ∙ x in
      let t = fields_set key_layout (take key_bytes b) in
      let u = fields_set state_layout (state_in b) in
      let v = fields_set columns_layout (columns_in p) in
      let w = line_set rest_layout (rest_in b) in
      ap (line_set bookkeeping_layout) (sym (bookkeeping-cut b))
      ∙ (bookkeeping-set (take key_bytes b) (state_in b) (columns_in p) (rest_in b) [] (book_key_wide b g) (state_wide b g) (columns_wide p h)
      ∙ and_both (and_fst t (u && (v && w)) y)
      (and_both (and_fst u (v && w) (and_snd t (u && (v && w)) y)) (and_snd v w (and_snd u (v && w) (and_snd t (u && (v && w)) y)))))

  module _ (agree : keys_agree p b ≡ true) where
    pub agree_key : take key_bytes p ≡ take key_bytes b
    unfolding keys_agree
    agree_key =
        eq_list-true (take key_bytes p) (take key_bytes b) (and_fst (eq_list (take key_bytes p) (take key_bytes b)) (eq_list (end_of p) (10 ∷ [])) agree)

    pub agree_end : eq_list (end_of p) (10 ∷ []) ≡ true
    unfolding keys_agree
    agree_end = and_snd (eq_list (take key_bytes p) (take key_bytes b)) (eq_list (end_of p) (10 ∷ [])) agree

    -- the plain line with the key of the other
    plain-by_key : take key_bytes b ++ (columns_in p ++ end_of p) ≡ p
    plain-by_key = ap (λ (k : List ℕ). k ++ (columns_in p ++ end_of p)) (sym agree_key) ∙ plain-cut p

    pub joined-plain_record : plain_record p ≡ plain_of (record_in (join_line p b))
    joined-plain_record =
        ap plain_record (sym plain-by_key)
        ∙ (plain_of-parts (take key_bytes b) (state_in b) (columns_in p) (rest_in b) (end_of p) (book_key_wide b g) (state_wide b g) (columns_wide p h)
        ∙ ap (λ (r : Record). plain_of r) (sym joined_record))

    pub joined-plain-set : line_set record_layout (join_line p b) ≡ true → line_set plain_layout p ≡ true
    unfolding line_set
    joined-plain-set x =
        let y = sym joined-set ∙ x in
        let t = fields_set key_layout (take key_bytes b) in
        let u = fields_set state_layout (state_in b) in
        let v = fields_set columns_layout (columns_in p) in
        let w = line_set rest_layout (rest_in b) in
        ap (line_set plain_layout) (sym plain-by_key)
        ∙ (plain-set (take key_bytes b) (state_in b) (columns_in p) (rest_in b) (end_of p) (book_key_wide b g) (state_wide b g) (columns_wide p h)
        ∙ and_both (and_fst t (u && (v && w)) y) (and_both (and_fst v w (and_snd u (v && w) (and_snd t (u && (v && w)) y))) agree_end))

    -- split-join: the parts of the joined line are the two lines
    pub plain_back : plain_line (join_line p b) ≡ p
    unfolding plain_line join_line
    plain_back =
        let n : length (take (key_bytes + state_bytes) b) ≡ key_bytes + state_bytes = simp length-take (omega arith) in
        let t = columns_in p ++ rest_in b in
        let k : take key_bytes (take (key_bytes + state_bytes) b ++ t) ≡ take key_bytes b =
        ap (take key_bytes) (front b t) ∙ take_at (take key_bytes b) (state_in b ++ t) key_bytes (book_key_wide b g) in
        let c : take columns_bytes (drop (key_bytes + state_bytes) (take (key_bytes + state_bytes) b ++ t)) ≡ columns_in p =
        ap (take columns_bytes) (drop_at (take (key_bytes + state_bytes) b) t (key_bytes + state_bytes) n)
        ∙ take_at (columns_in p) (rest_in b) columns_bytes (columns_wide p h) in
        ap₂ (λ (x y : List ℕ). x ++ (y ++ (10 ∷ []))) k c
        ∙ (ap (λ (x : List ℕ). take key_bytes b ++ (columns_in p ++ x)) (sym (eq_list-true (end_of p) (10 ∷ []) agree_end)) ∙ plain-by_key)

  pub bookkeeping_back : bookkeeping_line (join_line p b) ≡ b
  unfolding bookkeeping_line join_line
  bookkeeping_back =
      let n : length (take (key_bytes + state_bytes) b) ≡ key_bytes + state_bytes = simp length-take (omega arith) in
      let t = columns_in p ++ rest_in b in
      let s = take (key_bytes + state_bytes) b ++ t in
      let r : drop (key_bytes + state_bytes + columns_bytes) s ≡ rest_in b =
      sym (drop-drop columns_bytes (key_bytes + state_bytes) s)
      ∙ (ap (drop columns_bytes) (drop_at (take (key_bytes + state_bytes) b) t (key_bytes + state_bytes) n)
      ∙ drop_at (columns_in p) (rest_in b) columns_bytes (columns_wide p h)) in
      ap₂ ◌++◌ (take_at (take (key_bytes + state_bytes) b) t (key_bytes + state_bytes) n) r ∙ take-append-drop (key_bytes + state_bytes) b

-- join-split: the two parts of a line join to it
pub join_back : (l : List ℕ) → length l ≡ record_bytes → join_line (plain_line l) (bookkeeping_line l) ≡ l
unfolding join_line plain_line bookkeeping_line
join_back l h =
    let k = take (key_bytes + state_bytes) l in
    let c = take columns_bytes (drop (key_bytes + state_bytes) l) in
    let r = drop (key_bytes + state_bytes + columns_bytes) l in
    let n : length k ≡ key_bytes + state_bytes = simp length-take (omega arith) in
    let m : length (take key_bytes l) ≡ key_bytes = simp length-take (omega arith) in
    let o : length c ≡ columns_bytes = simp (length-take, length-drop) (omega arith) in
    let x : columns_in (take key_bytes l ++ (c ++ (10 ∷ []))) ≡ c =
    ap (take columns_bytes) (drop_at (take key_bytes l) (c ++ (10 ∷ [])) key_bytes m) ∙ take_at c (10 ∷ []) columns_bytes o in
    ap₂ (λ (y z : List ℕ). y ++ (columns_in (take key_bytes l ++ (c ++ (10 ∷ []))) ++ z)) (take_at k r (key_bytes + state_bytes) n) (drop_at k r (key_bytes + state_bytes) n)
    ∙ (ap (λ (y : List ℕ). k ++ (y ++ r)) x
    ∙ (ap (λ (y : List ℕ). k ++ (c ++ y)) (sym (drop-drop columns_bytes (key_bytes + state_bytes) l))
    ∙ (ap (λ (y : List ℕ). k ++ y) (take-append-drop columns_bytes (drop (key_bytes + state_bytes) l)) ∙ take-append-drop (key_bytes + state_bytes) l)))

-- the two parts of a line agree, and have their lengths
pub parts-agree : (l : List ℕ) → length l ≡ record_bytes → keys_agree (plain_line l) (bookkeeping_line l) ≡ true
unfolding keys_agree plain_line bookkeeping_line
parts-agree l h =
    let k = take (key_bytes + state_bytes) l in
    let c = take columns_bytes (drop (key_bytes + state_bytes) l) in
    let r = drop (key_bytes + state_bytes + columns_bytes) l in
    let m : length (take key_bytes l) ≡ key_bytes = simp length-take (omega arith) in
    let o : length (take key_bytes l ++ c) ≡ key_bytes + columns_bytes = simp (length-append, length-take, length-drop) (omega arith) in
    let x : take key_bytes (take key_bytes l ++ (c ++ (10 ∷ []))) ≡ take key_bytes l = take_at (take key_bytes l) (c ++ (10 ∷ [])) key_bytes m in
    let y : take key_bytes (k ++ r) ≡ take key_bytes l =
    ap (take key_bytes) (front l r) ∙ take_at (take key_bytes l) (state_in l ++ r) key_bytes m in
    let z : end_of (take key_bytes l ++ (c ++ (10 ∷ []))) ≡ 10 ∷ [] =
    ap (drop (key_bytes + columns_bytes)) (sym (append_assoc (take key_bytes l) c (10 ∷ [])))
    ∙ drop_at (take key_bytes l ++ c) (10 ∷ []) (key_bytes + columns_bytes) o in
    and_both
    (ap₂ eq_list x y ∙ eq_list_refl (take key_bytes l))
    (ap (λ (e : List ℕ). eq_list e (10 ∷ [])) z ∙ eq_list_refl (10 ∷ []))

pub length-plain_line : (l : List ℕ) → length l ≡ record_bytes → length (plain_line l) ≡ plain_bytes
unfolding plain_line
length-plain_line l h = simp (length-append, length-take, length-drop) (omega arith)

pub length-bookkeeping_line : (l : List ℕ) → length l ≡ record_bytes → length (bookkeeping_line l) ≡ bookkeeping_bytes
unfolding bookkeeping_line
length-bookkeeping_line l h = simp (length-append, length-take, length-drop) (omega arith)
