-- The record sheet: a line as a record, and the rules that records keep. Document 01, "Record sheet".
use Rattle.std.specs.Prelude.{◌+◌, ◌*◌, ◌/◌, ◌&&◌, ◌∷◌, ◌++◌}
use Rattle.lists.specs.Basics.{ℕ, eqb, leb, Bool, true, false, not, cond, List, [], map, length, get_or, all}
use Rattle.lists.specs.Basics.{count, joined, pieces, less, eq_list}
use Rattle.model.specs.Types.{Key, Image, Record, State, Before, Rank, Found, Some, None}
use Rattle.types.specs.declared.State.TheVariants.{Absent, Committed, Prepared}
use Rattle.types.specs.declared.Before.TheVariants as Was
unfoldable pub use Rattle.types.specs.Numbers.{state_of, before_of}
use Rattle.model.specs.Layouts.{record_layout, key_layout, state_field, image_field, before_state_field, before_field, clock_field, record_bytes, record_fields}
use Rattle.model.specs.Lines.{row_of, line_text, row_good, lines_of, lines_set}
use Rattle.model.specs.Search.{first_from}

-- State words by their index among the words; `state_of` and `before_of`, the words of numbers, stand in crates/types/specs/Numbers.antt.

unfoldable pub state_number : State → ℕ
state_number Absent = 0
state_number Committed = 1
state_number Prepared = 2

abbrev pub by_state {ℓ} : {A : Type ℓ} → State → A → A → A → A
by_state Absent a c p = a
by_state Committed a c p = c
by_state Prepared a c p = p

-- Before states by their index among their words: `-`, ABSENT, COMMITTED.

unfoldable pub before_number : Before → ℕ
before_number Was.Nothing = 0
before_number Was.Absent = 1
before_number Was.Committed = 2

abbrev pub by_before {ℓ} : {A : Type ℓ} → Before → A → A → A → A
by_before Was.Nothing n a c = n
by_before Was.Absent n a c = a
by_before Was.Committed n a c = c

-- A row of numbers as a record, and back.

unfoldable pub key_numbers : Key → List ℕ
key_numbers k = k.storage ∷ k.namespace ∷ k.table ∷ k.partition ∷ k.clustering ∷ []

unfoldable pub image_numbers : Image → List ℕ
image_numbers m = m.version ∷ m.txid ∷ m.column1 ∷ m.column2 ∷ []

unfoldable pub key_of : List ℕ → Key
key_of v =
    record { storage = get_or v 0 0; namespace = get_or v 1 0; table = get_or v 2 0; partition = get_or v 3 0; clustering = get_or v 4 0 }

-- the image whose numbers start at number i
unfoldable pub image_from : ℕ → List ℕ → Image
image_from i v =
    record { version = get_or v i 0; txid = get_or v (i + 1) 0; column1 = get_or v (i + 2) 0; column2 = get_or v (i + 3) 0 }

unfoldable pub record_of : List ℕ → Record
record_of v =
    record {
      key = key_of v;
      state = state_of (get_or v state_field 0);
      image = image_from image_field v;
      prior = before_of (get_or v before_state_field 0);
      before = image_from before_field v;
      clock = get_or v clock_field 0;
    }

unfoldable pub record_numbers : Record → List ℕ
record_numbers r =
    key_numbers r.key
    ++ (state_number r.state ∷ image_numbers r.image ++ (before_number r.prior ∷ image_numbers r.before ++ (r.clock ∷ [])))

-- what stands past the last record: absent, of no key
abbrev pub no_image : Image
no_image = record { version = 0; txid = 0; column1 = 0; column2 = 0 }

abbrev pub no_record : Record
no_record =
    record {
      key = record { storage = 0; namespace = 0; table = 0; partition = 0; clustering = 0 };
      state = Absent;
      image = no_image;
      prior = Was.Nothing;
      before = no_image;
      clock = 0;
    }

-- The rules. Document 02, note 7: "The before state is ABSENT or COMMITTED when the line is PREPARED .., and `-` otherwise."

-- every field of the image is 0
unfoldable pub is_zero : Image → Bool
is_zero m = eqb m.version 0 && eqb m.txid 0 && eqb m.column1 0 && eqb m.column2 0

-- "version and TxID, each 0 or each at least 1", and columns 0: what an ABSENT line says, an ABSENT before image and an entry that was read absent
unfoldable pub absence : Image → Bool
absence m = cond (eqb m.version 0) (eqb m.txid 0) (leb 1 m.txid) && eqb m.column1 0 && eqb m.column2 0

-- nothing before: before state `-`, "before fields and clock 0"
unfoldable pub no_before : Record → Bool
no_before r = by_before r.prior true false false && is_zero r.before && eqb r.clock 0

-- "ABSENT: every field after the state word is 0", but "ABSENT lines may now carry both" version and TxID
unfoldable pub absent_rule : Record → Bool
absent_rule r = absence r.image && no_before r

-- "COMMITTED: version at least 1, before fields and clock 0; TxID 0 marks a line loaded at layout."
unfoldable pub committed_rule : Record → Bool
committed_rule r = leb 1 r.image.version && no_before r

-- "An ABSENT before image has the same rule and columns 0; a COMMITTED one has version at least 1."
unfoldable pub before_rule : Record → Bool
before_rule r = by_before r.prior false (absence r.before) (leb 1 r.before.version)

-- "PREPARED: TxID at least 1, version = before version + 1"
unfoldable pub prepared_rule : Record → Bool
prepared_rule r =
    leb 1 r.image.txid
    && eqb r.image.version (r.before.version + 1)
    && before_rule r

-- the record keeps the rule of its state
abbrev pub state_rule : Record → Bool
state_rule r = by_state r.state (absent_rule r) (committed_rule r) (prepared_rule r)

-- a record good alone: its numbers are in their ranges, and it keeps the rule of its state
unfoldable pub good_alone : Record → Bool
good_alone r = row_good record_layout (record_numbers r) && state_rule r

-- "Keys rise strictly down the sheet, compared field by field from storage."
unfoldable pub key_less : Key → Key → Bool
key_less a b = less (key_numbers a) (key_numbers b)

-- the key of r comes before that of the next record, if there is one
unfoldable pub in_order : Record → List Record → Bool
in_order r [] = true
in_order r (next ∷ rs) = key_less r.key next.key

unfoldable pub rising : List Record → Bool
rising [] = true
rising (r ∷ rs) = in_order r rs && rising rs

-- at most 500 records, each good alone, neighbours in rising order
unfoldable pub records_good : List Record → Bool
records_good rs = leb (length rs) 500 && all good_alone rs && rising rs

-- The lines of records, without spares (Spares has the sheet).

-- the record that a line of bytes says
unfoldable pub record_in : List ℕ → Record
record_in line = record_of (row_of record_layout line)

-- the line for a record
unfoldable pub record_text : Record → List ℕ
record_text r = line_text record_layout (record_numbers r)

-- the records of these lines, whatever their bytes
unfoldable pub records : List ℕ → List Record
records s = map record_in (lines_of record_bytes s)

-- the lines for a list of records
unfoldable pub records_text : List Record → List ℕ
records_text rs = joined (map record_text rs)

-- lines that break no rule
unfoldable pub records_accepted : List ℕ → Bool
records_accepted s = lines_set record_layout record_bytes s && records_good (records s)

-- Records as a lent list of numbers, one for each field.

unfoldable pub rows : List ℕ → List (List ℕ)
rows xs = pieces record_fields (length xs / record_fields) xs

-- the numbers of all the records
unfoldable pub all_numbers : List Record → List ℕ
all_numbers rs = joined (map record_numbers rs)

-- whole records in range that keep the rules
unfoldable pub rows_accepted : List ℕ → Bool
rows_accepted xs =
    eqb (length xs) (length xs / record_fields * record_fields)
    && all (row_good record_layout) (rows xs)
    && records_good (map record_of (rows xs))

-- Looking up a key.

-- a key whose fields are in range
unfoldable pub key_in_range : Key → Bool
key_in_range k = row_good key_layout (key_numbers k)

unfoldable pub same_key : Key → Key → Bool
same_key a b = eq_list (key_numbers a) (key_numbers b)

-- the index of the line that has the key
unfoldable pub found : Key → List Record → Found
found k rs = first_from (λ (r : Record). same_key r.key k) 0 rs

abbrev pub by_found {ℓ} : {A : Type ℓ} → Found → A → (ℕ → A) → A
by_found None a f = a
by_found (Some i) a f = f i

unfoldable pub is_missing : Found → Bool
is_missing (Some i) = false
is_missing None = true

-- some line has the key
abbrev pub has_line : Key → List Record → Bool
has_line k rs = not (is_missing (found k rs))

-- "how many lines have smaller keys"
unfoldable pub rank : Key → List Record → ℕ
rank k rs = count (λ (r : Record). key_less r.key k) rs

-- "and whether the key has a line itself"
abbrev pub ranked : Key → List Record → Rank
ranked k rs = record { below = rank k rs; present = has_line k rs }

-- the part of that answer by which operations go: the index of the key's line, if it has one
abbrev pub placed : Rank → Found
placed r = cond r.present (Some r.below) None

abbrev pub keys_in : List Record → List Key
keys_in rs = map (λ (r : Record). r.key) rs

-- a key without a line counts as an ABSENT line of version 0
abbrev pub absent_at : Key → Record
absent_at k = record { key = k; state = Absent; image = no_image; prior = Was.Nothing; before = no_image; clock = 0 }

-- the line of a key
unfoldable pub line_of : Key → List Record → Record
line_of k [] = absent_at k
line_of k (r ∷ rs) = cond (same_key r.key k) r (line_of k rs)
