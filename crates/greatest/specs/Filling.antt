-- The sheet filled line by line, and the transaction entry by entry.
use Rattle.std.specs.Prelude.{◌≡◌, ◌+◌, ◌-◌, ◌*◌, ◌≤◌, ◌<◌, ◌∷◌, ◌++◌}
use Rattle.std.proofs.Common.{◌∙◌}
use Rattle.lists.specs.Basics.{refl, sym, ap, ap₂, ℕ, suc, List, [], append-nil, append_assoc, length, take, drop}
use Rattle.lists.specs.Basics.{length-append, length-take, take_at, take_all, arith, add-one, joined}
use Rattle.lists.specs.Pieces.{over, over-part, length_over}
use Rattle.model.specs.Types.{Record, Entry, Transaction}
use Rattle.model.specs.Layouts.{record_bytes}
use Rattle.model.specs.Records.{absent_at, record_text, records_text}
use Rattle.model.specs.Transactions.{with_entry}
use Rattle.model.specs.Greatest.{greatest_key, greatest_lines, greatest_entry, greatest_transaction}

-- The lines before i are in the target.
pub record LaidTo (count : ℕ) (target : List ℕ) (i : ℕ) : Type 0 where
  pub reached : i ≤ count
  pub room : length target ≡ count * record_bytes
  pub done : take (i * record_bytes) target ≡ records_text (greatest_lines i)

pub laid_first : (count : ℕ) (target : List ℕ) → length target ≡ count * record_bytes → LaidTo count target 0
unfolding records_text greatest_lines joined
laid_first count target n = record { reached = omega arith; room = n; done = refl }

-- one more line at the end of the sheet
text-after : (rs : List Record) (r : Record) → records_text (rs ++ (r ∷ [])) ≡ records_text rs ++ record_text r
unfolding records_text joined
text-after [] r = append-nil (record_text r)
text-after (x ∷ rs) r = ap (λ (t : List ℕ). record_text x ++ t) (text-after rs r) ∙ sym (append_assoc (record_text x) (records_text rs) (record_text r))

-- line i, lent and come back as t
pub laid_next : (count : ℕ) (target t : List ℕ) (i : ℕ) → i < count → length t ≡ i * record_bytes + record_bytes - i * record_bytes
    → t ≡ record_text (absent_at (greatest_key (i + 1))) → LaidTo count target i
    → LaidTo count (take (i * record_bytes) target ++ (t ++ drop (i * record_bytes + record_bytes - i * record_bytes) (drop (i * record_bytes) target))) (i + 1)
unfolding over greatest_lines
laid_next count target t i l k e p =
    let m : length target ≡ count * record_bytes = p.room in
    let at = i * record_bytes in
    let w : length (take at target ++ t) ≡ (i + 1) * record_bytes = simp (length-append, length-take) (omega arith) in
    let a : take ((i + 1) * record_bytes) (over target at t) ≡ take at target ++ t =
    ap (take ((i + 1) * record_bytes)) (sym (append_assoc (take at target) t (drop (at + length t) target)))
    ∙ take_at (take at target ++ t) (drop (at + length t) target) ((i + 1) * record_bytes) w in
    let b : records_text (greatest_lines (i + 1)) ≡ records_text (greatest_lines i) ++ record_text (absent_at (greatest_key (i + 1))) =
    rw add-one (text-after (greatest_lines i) (absent_at (greatest_key (suc i)))) in
    rw (over-part target t at (at + record_bytes) k)
    (record {
      reached = omega arith;
      room = length_over target t at (omega arith) ∙ m;
      done = a ∙ (ap₂ ◌++◌ p.done e ∙ sym b);
    })

pub laid_last : (count : ℕ) (target : List ℕ) (i : ℕ) → count ≤ i → LaidTo count target i → target ≡ records_text (greatest_lines count)
laid_last count target i l p =
    let r : i ≤ count = p.reached in
    let m : length target ≡ count * record_bytes = p.room in
    let e : i ≡ count = omega arith in
    sym (take_all (i * record_bytes) target (omega arith)) ∙ (p.done ∙ ap (λ (n : ℕ). records_text (greatest_lines n)) e)

-- one more entry
pub entry_next : (i : ℕ) (e : Entry) (t : Transaction) → e ≡ greatest_entry (i + 1) → t ≡ greatest_transaction i → with_entry (i + 1) i e t ≡ greatest_transaction (i + 1)
unfolding greatest_transaction
entry_next i e t p q =
    ap₂ (with_entry (i + 1) i) p q
    ∙ (ap (λ (m : ℕ). with_entry m i (greatest_entry m) (greatest_transaction i)) (add-one i) ∙ sym (ap greatest_transaction (add-one i)))
