-- The condition of an entry by the two cases of what is found of its key.
use Rattle.std.specs.Prelude.{◌≡◌, ◌&&◌, ◌||◌}
use Rattle.std.proofs.Common.{◌∙◌}
use Rattle.lists.specs.Basics.{sym, ap, ℕ, Bool, true, false, not, and-true, get_or}
use Rattle.model.specs.Types.{Record, Some, None, Entry}
use Rattle.model.specs.Records.{no_record, found, is_missing}
use Rattle.model.specs.Groups.{is_lower}
use Rattle.model.specs.Images.{unchanged, same_columns}
use Rattle.model.specs.Writes.{Sheets}
use Rattle.model.specs.Steps.{units_of, holds}
use Rattle.call_laws.specs.ByIndex.{found_at}

module _ (s : Sheets) (e : Entry) where
  -- a key without a line: the condition fails
  pub holds-none : found e.key s.lines ≡ None → false ≡ holds s e
  unfolding holds is_missing
  holds-none h = rw h

  -- the condition by the line at the index
  pub holds_at : (i : ℕ) → found e.key s.lines ≡ Some i
      → (unchanged e (get_or s.lines i no_record) && (not (is_lower (units_of s) e.key) || same_columns e (get_or s.lines i no_record))) ≡ holds s e
  unfolding holds is_missing
  holds_at i h =
      rw h (ap (λ (r : Record). unchanged e r && (not (is_lower (units_of s) e.key) || same_columns e r)) (found_at e.key s.lines i h).line)

  -- which is that of the line alone unless its storage can't be read consistently
  pub holds_capital : (i : ℕ) → found e.key s.lines ≡ Some i → is_lower (units_of s) e.key ≡ false → unchanged e (get_or s.lines i no_record) ≡ holds s e
  holds_capital i h l =
      let r = get_or s.lines i no_record in
      sym (ap (λ (b : Bool). unchanged e r && (not b || same_columns e r)) l ∙ and-true (unchanged e r)) ∙ holds_at i h

  pub holds_lower_lem : (i : ℕ) → found e.key s.lines ≡ Some i → is_lower (units_of s) e.key ≡ true
      → (unchanged e (get_or s.lines i no_record) && same_columns e (get_or s.lines i no_record)) ≡ holds s e
  holds_lower_lem i h l =
      let r = get_or s.lines i no_record in
      sym (ap (λ (b : Bool). unchanged e r && (not b || same_columns e r)) l) ∙ holds_at i h
