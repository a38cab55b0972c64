-- No record names a number above the issued count: four columns that hold a figure order as their bytes do, and so as one number.
-- The loop goes record by record.
use Rattle.std.specs.Prelude.{◌≡◌, ◌+◌, ◌*◌, ◌/◌, ◌≤◌, ◌<◌, ◌&&◌, Some}
use Rattle.std.proofs.Common.{◌∙◌}
use Rattle.lists.specs.Basics.{refl, sym, ap, ap₂, ℕ, leb, ltb, Bool, true, false, not, List, [], length, take, drop}
use Rattle.lists.specs.Basics.{get_or, length-take, length-drop, drop-drop, arith, leb-true, leb-false, lt-ltb, le-ltb, all, pieces, tests}
use Rattle.std.proofs.Math.Pow.{are_bytes}
use Rattle.lists.specs.All.{all_at}
use Rattle.lists.specs.Pieces.{take-drop-take, get_or-pieces, length-pieces}
use Rattle.decimal.specs.Field.{figure}
use Rattle.decimal.specs.Laws.{figure_scan}
use Rattle.decimal.specs.Order.{order_bytes}
use Rattle.line_bytes.specs.Order.{number_of, bytes_at, less_is, part_bytes}
use Rattle.lists.specs.Walks.{LeftFrom, left_here}
use Rattle.model.specs.Layouts.{record_layout, txid_field, before_txid_field, offset, record_offset, record_bytes, coordinator_bytes}
use Rattle.model.specs.Lines.{field_value, line_set, lines_of, lines_set}
use Rattle.model.specs.Records.{no_record, record_of, image_from, record_in, records, records_accepted}
use Rattle.model.specs.Coordinator.{coordinator_of, coordinator_readable, names_issued}
use Rattle.model.specs.SheetCalls.{all_issued}
use Rattle.sheet_laws.specs.Lines.{field_at, field_at_lem}
use Rattle.sheet_laws.specs.ByIndex.{record_at, length-records}
use Rattle.sheet_laws.specs.Decisions.{readable_length}
use Rattle.coordinator_check.specs.Lines.{Bytes}
use Rattle.coordinator_check.specs.Sheet.{readable_head}

-- the TxIDs of a record line
txid_at : (line : List ℕ) → line_set record_layout line ≡ true → figure 0 999 (take 4 (drop (record_offset txid_field) line)) ≡ Some (record_in line).image.txid
unfolding record_layout offset field_at field_value record_in record_of image_from
txid_at line h = field_at_lem txid_field record_layout line (omega arith) h

before_txid_at : (line : List ℕ) → line_set record_layout line ≡ true → figure 0 999 (take 4 (drop (record_offset before_txid_field) line)) ≡ Some (record_in line).before.txid
unfolding record_layout offset field_at field_value record_in record_of image_from
before_txid_at line h = field_at_lem before_txid_field record_layout line (omega arith) h

at_most : (a b : ℕ) → leb a b ≡ not (ltb b a)
at_most a b = go (leb a b) refl
  where
    go : (t : Bool) → leb a b ≡ t → t ≡ not (ltb b a)
    go true e = ap not (sym (le-ltb b a (leb-true a b e)))
    go false e = ap not (sym (lt-ltb b a (leb-false a b e)))

-- figures of one width are ordered by their bytes' numbers
figures_order : (s t : List ℕ) (a b : ℕ) → figure 0 999 s ≡ Some a → figure 0 999 t ≡ Some b → are_bytes s ≡ true → are_bytes t ≡ true
    → length s ≡ length t → leb (number_of s) (number_of t) ≡ leb a b
figures_order s t a b p q f g n =
    at_most (number_of s) (number_of t)
    ∙ ap not (sym (less_is t s g f (sym n)) ∙ order_bytes t s b a (figure_scan 0 999 t b q).0 (figure_scan 0 999 s a p).0 (sym n))
    ∙ sym (at_most a b)

-- How far the records have been looked at: those before i are good.
abbrev pub NamedTo : (rs cs : List ℕ) (i : ℕ) → Type 0
NamedTo rs cs i = LeftFrom (records rs) (all (names_issued (coordinator_of cs).issued)) (all_issued rs cs) i

module _ (rs cs : List ℕ) (good-rs : records_accepted rs ≡ true) (good-cs : coordinator_readable cs ≡ true) (bytes-rs : Bytes rs) (bytes-cs : Bytes cs) where
  -- the number of the four bytes at o of record i is at most that of the count
  abbrev named : (i o : ℕ) → Bool
  named i o = leb (number_of (bytes_at rs 4 (i * record_bytes + o))) (number_of (bytes_at cs 4 0))

  line_at_lem : (i : ℕ) → i < length rs / record_bytes → line_set record_layout (take record_bytes (drop (i * record_bytes) rs)) ≡ true
  unfolding records_accepted lines_set lines_of
  line_at_lem i l =
      let h = good-rs in
      let each : all (line_set record_layout) (pieces record_bytes (length rs / record_bytes) rs) ≡ true = search tests in
      rw (get_or-pieces record_bytes i (length rs / record_bytes) rs l) at
      (all_at (line_set record_layout) (pieces record_bytes (length rs / record_bytes) rs) [] i each (omega (arith, length-pieces record_bytes (length rs / record_bytes) rs)))

  -- the test of a figure in record i
  named_is : (i o v : ℕ) → i < length rs / record_bytes → o + 4 ≤ record_bytes → figure 0 999 (take 4 (drop o (take record_bytes (drop (i * record_bytes) rs)))) ≡ Some v
      → named i o ≡ leb v (coordinator_of cs).issued
  named_is i o v l m e =
      let w : take 4 (drop o (take record_bytes (drop (i * record_bytes) rs))) ≡ bytes_at rs 4 (i * record_bytes + o) =
      take-drop-take 4 o record_bytes (drop (i * record_bytes) rs) m ∙ ap (take 4) (drop-drop o (i * record_bytes) rs) in
      let long : coordinator_bytes ≤ length cs = readable_length cs good-cs in
      figures_order (bytes_at rs 4 (i * record_bytes + o)) (bytes_at cs 4 0) v (coordinator_of cs).issued (rw w at e) (readable_head cs good-cs).0
      (part_bytes rs 4 (i * record_bytes + o) bytes-rs) (part_bytes cs 4 0 bytes-cs) (simp (length-take, length-drop) (omega arith))

  record_is : (i : ℕ) → i < length rs / record_bytes → names_issued (coordinator_of cs).issued (get_or (records rs) i no_record) ≡ (named i (record_offset txid_field) && named i (record_offset before_txid_field))
  unfolding names_issued offset record_layout
  record_is i l =
      let line = take record_bytes (drop (i * record_bytes) rs) in
      ap (names_issued (coordinator_of cs).issued) (record_at rs i l)
      ∙ ap₂ ◌&&◌ (sym (named_is i (record_offset txid_field) (record_in line).image.txid l (omega arith) (txid_at line (line_at_lem i l))))
      (sym (named_is i (record_offset before_txid_field) (record_in line).before.txid l (omega arith) (before_txid_at line (line_at_lem i l))))

  -- record i and those after it, by the three numbers that are compared
  pub named-turn : (i : ℕ) → i < length rs / record_bytes → NamedTo rs cs i → {issued txid before : ℕ}
      → issued ≡ number_of (bytes_at cs 4 0)
      → txid ≡ number_of (bytes_at rs 4 (i * record_bytes + record_offset txid_field))
      → before ≡ number_of (bytes_at rs 4 (i * record_bytes + record_offset before_txid_field))
      → ((leb txid issued && leb before issued) && all (names_issued (coordinator_of cs).issued) (drop (i + 1) (records rs))) ≡ all_issued rs cs
  unfolding all
  named-turn i l t e f g =
      let p = names_issued (coordinator_of cs).issued in
      rw (e, f, g)
      (ap (λ (b : Bool). b && all p (drop (i + 1) (records rs))) (sym (record_is i l))
      ∙ left_here (records rs) (all p) no_record (get_or (records rs) i no_record) (all_issued rs cs) i (omega (arith, length-records rs)) refl t)
