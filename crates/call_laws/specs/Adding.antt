-- What an accepted adding and an accepted removing know, each from the conditions that don't hold.
use Rattle.std.specs.Prelude.{◌≡◌, ◌<◌}
use Rattle.std.proofs.Common.{◌∙◌}
use Rattle.lists.specs.Basics.{sym, leb, true, false, not, length, leb-false, not-false}
use Rattle.model.specs.Types.{Key}
use Rattle.model.specs.Records.{key_in_range, has_line, line_of}
use Rattle.model.specs.Writes.{Sheets}
use Rattle.model.specs.Refusals.{refusal_of}
use Rattle.model.specs.Results.{add, remove}
use Rattle.model.specs.Conditions.{is_blank, conditions}
use Rattle.sheet_laws.specs.KeyOrder.{lists_key, has_line_lem}
use Rattle.call_laws.specs.Choices.{test_of, accepted}

-- a key in range that has no line, and room for one
pub record MayAdd (k : Key) (s : Sheets) : Type 0 where
  pub is_in_range : key_in_range k ≡ true
  pub unlisted : lists_key k s.lines ≡ false
  pub room : length s.lines < s.size

pub may_add : (k : Key) (s : Sheets) → refusal_of (conditions (add k) s) ≡ 0 → MayAdd k s
unfolding conditions test_of
may_add k s z =
    let a : not (key_in_range k) ≡ false = accepted 5 (add k) s z in
    let b : has_line k s.lines ≡ false = accepted 14 (add k) s z in
    let c : leb s.size (length s.lines) ≡ false = accepted 15 (add k) s z in
    record {
      is_in_range = not-false (key_in_range k) a;
      unlisted = sym (has_line_lem k s.lines) ∙ b;
      room = leb-false s.size (length s.lines) c;
    }

-- a key that has a line, ABSENT of version 0
pub record MayRemove (k : Key) (s : Sheets) : Type 0 where
  pub listed : lists_key k s.lines ≡ true
  pub blank : is_blank (line_of k s.lines) ≡ true

pub may_remove : (k : Key) (s : Sheets) → refusal_of (conditions (remove k) s) ≡ 0 → MayRemove k s
unfolding conditions test_of
may_remove k s z =
    let a : not (has_line k s.lines) ≡ false = accepted 6 (remove k) s z in
    let b : not (is_blank (line_of k s.lines)) ≡ false = accepted 16 (remove k) s z in
    record {
      listed = sym (has_line_lem k s.lines) ∙ not-false (has_line k s.lines) a;
      blank = not-false (is_blank (line_of k s.lines)) b;
    }
