-- Well-formedness in the order in which the code asks.
use Rattle.std.specs.Prelude.{◌≡◌, ◌+◌, ◌≤◌, ◌<◌, ◌&&◌, ◌||◌}
use Rattle.std.proofs.Common.{◌∙◌}
use Rattle.lists.specs.Basics.{refl, sym, ap, ℕ, eqb, leb, Bool, true, false, not, and_assoc, and-true, List, drop, get_or, length, drop_of_length-le}
use Rattle.lists.specs.Basics.{all, any, tests}
use Rattle.std.proofs.Math.Dec.{leb-zero}
use Rattle.model.specs.Types.{Image, Columns, Entry, Transaction}
use Rattle.model.specs.Layouts.{record_layout, image_layout, columns_layout}
use Rattle.model.specs.Lines.{in_range, row_good}
use Rattle.model.specs.Records.{image_numbers, same_key}
use Rattle.model.specs.Coordinator.{Letter}
use Rattle.model.specs.Transactions.{decide_phase, is_empty, held, puts, no_entry}
use Rattle.model.specs.WellFormed.{image_in_range, columns_in_range, entry_formed, distinct_keys, place_formed, verdict_formed, formed}
use Rattle.lists.specs.Walks.{drop_here}

-- Numbers that start at 0 are bounded from above only.

pub columns-ranged : (c : Columns) → (leb c.column1 99999999 && leb c.column2 99999999) ≡ columns_in_range c
unfolding columns_in_range columns_layout image_layout record_layout row_good in_range
columns-ranged c = rw (leb-zero c.column1, leb-zero c.column2, and-true (leb c.column2 99999999))

pub image-ranged : (m : Image) → (leb m.version 99999 && leb m.txid 999 && leb m.column1 99999999 && leb m.column2 99999999) ≡ image_in_range m
unfolding image_in_range image_layout record_layout row_good in_range image_numbers
image-ranged m =
    rw (leb-zero m.version, leb-zero m.txid, leb-zero m.column1, leb-zero m.column2, and-true (leb m.column2 99999999))
    (and_assoc (leb m.version 99999 && leb m.txid 999) (leb m.column1 99999999) (leb m.column2 99999999)
    ∙ and_assoc (leb m.version 99999) (leb m.txid 999) (leb m.column1 99999999 && leb m.column2 99999999))

-- Distinct keys.

abbrev pub same_key_as : Entry → Entry → Bool
same_key_as e f = same_key f.key e.key

-- entry i, and those after it
module _ (xs : List Entry) (i : ℕ) (l : i < length xs) (b : Bool) (e : b ≡ any (same_key_as (get_or xs i no_entry)) (drop (i + 1) xs)) where
  pub distinct_here : distinct_keys (drop i xs) ≡ (not b && distinct_keys (drop (i + 1) xs))
  unfolding distinct_keys
  distinct_here = ap distinct_keys (drop_here xs i no_entry (get_or xs i no_entry) l refl) ∙ rw (sym e) refl

pub distinct_last : (xs : List Entry) (i : ℕ) → length xs ≤ i → true ≡ distinct_keys (drop i xs)
unfolding distinct_keys
distinct_last xs i l = sym (ap distinct_keys (drop_of_length-le xs l))

-- The whole.

-- what is asked before the entries are looked at
abbrev pub head_formed : ℕ → Transaction → Bool
head_formed issued t = leb 1 t.number && leb t.number issued && leb t.serializable 1 && leb t.count 8

-- "decide has a put"
abbrev pub decide_formed : Transaction → Bool
decide_formed t = not (eqb t.phase decide_phase) || not (is_empty (puts t))

pub head_few : (issued : ℕ) (t : Transaction) → head_formed issued t ≡ true → t.count ≤ 8
head_few issued t h = search tests

regroup : (h a d p l r : Bool) → (h && (a && d && p && l && r)) ≡ (h && a && d && p && l && r)
regroup false a d p l r = refl
regroup true a d p l r = refl

-- what is asked of a transaction whose head is well formed
abbrev rest_formed : List Letter → ℕ → Transaction → Bool
rest_formed us issued t = all (entry_formed issued) (held t) && distinct_keys (held t) && decide_formed t && place_formed us t && verdict_formed t

module _ (us : List Letter) (issued : ℕ) (t : Transaction) where
  in_order_lem : (head_formed issued t && rest_formed us issued t) ≡ formed us issued t
  unfolding formed
  in_order_lem =
      regroup (head_formed issued t) (all (entry_formed issued) (held t)) (distinct_keys (held t)) (decide_formed t) (place_formed us t)
      (verdict_formed t)

  pub formed-not : head_formed issued t ≡ false → false ≡ formed us issued t
  formed-not e = sym (ap (λ (b : Bool). b && rest_formed us issued t) e) ∙ in_order_lem

  pub formed-rest : head_formed issued t ≡ true → rest_formed us issued t ≡ formed us issued t
  formed-rest e = sym (ap (λ (b : Bool). b && rest_formed us issued t) e) ∙ in_order_lem
