-- The invariant of the record sheet: the settled line of each key is the sequential model's line of that key, a key without a line counting as an ABSENT line
-- of version 0. Gentle writes keep it.
use Rattle.std.specs.Prelude.{◌≡◌, ◌≤◌}
use Rattle.std.proofs.Common.{◌∙◌}
use Rattle.lists.specs.Basics.{refl, sym, ap, subst, Bool, true, false, List, arith}
use Rattle.model.specs.Types.{Key, Record}
use Rattle.model.specs.Records.{is_zero, absence, no_before, absent_rule, state_rule, absent_at, line_of}
use Rattle.model.specs.Writes.{Sheets, Write, line_after, decisions_after, apply}
use Rattle.model.specs.SequentialModel.{Model}
use Rattle.sheet_laws.specs.KeyOrder.{lists_key, unlisted}
use Rattle.call_laws.specs.Lines.{Linewise, line_of_key}
use Rattle.call_laws.specs.Sheets.{GoodSheets, listed_good}
use Rattle.recovery.specs.Settling.{settle, Gentle, gentle_settled, gentle_linewise}

abbrev pub View : Sheets → Model → Type 0
View s m = (k : Key) → settle s.coordinator (line_of k s.lines) ≡ m.line k

-- The line of a key.

-- it is that of its own key
pub own_key : (s : Sheets) (k : Key) → line_of (line_of k s.lines).key s.lines ≡ line_of k s.lines
own_key s k = ap (λ (x : Key). line_of x s.lines) (line_of_key k s.lines)

-- what holds of a line and of an ABSENT line of version 0 holds of the line of every key
pub by_line : (P : Record → Type 0) (k : Key) (rs : List Record) → (lists_key k rs ≡ true → P (line_of k rs)) → P (absent_at k) → P (line_of k rs)
by_line P k rs f a = go (lists_key k rs) refl
  where
    go : (b : Bool) → lists_key k rs ≡ b → P (line_of k rs)
    go true h = f h
    go false h = subst P (sym (unlisted k rs h)) a

-- it keeps the rule of its state
pub own-rule : (s : Sheets) → GoodSheets s → (k : Key) → state_rule (line_of k s.lines) ≡ true
unfolding absent_rule absence no_before is_zero
own-rule s g k = by_line (λ (r : Record). state_rule r ≡ true) k s.lines (λ h. (listed_good s g k h).rule) refl

-- and names an issued number
pub own_txid : (s : Sheets) → GoodSheets s → (k : Key) → (line_of k s.lines).image.txid ≤ s.coordinator.issued
own_txid s g k = by_line (λ (r : Record). r.image.txid ≤ s.coordinator.issued) k s.lines (λ h. (listed_good s g k h).txid) (omega arith)

-- the line of a key after a write that goes line by line
pub line_after_lem : (s : Sheets) (w : Write) → Linewise s.lines w → (k : Key) → line_of k (apply w s).lines ≡ line_after w (line_of k s.lines)
unfolding apply
line_after_lem s w by k = by k

pub gentle_view : (s : Sheets) (m : Model) (w : Write) → GoodSheets s → Gentle s w → View s m → View (apply w s) m
unfolding apply
gentle_view s m w g f v k =
    ap (settle (decisions_after w s.coordinator)) (line_after_lem s w (gentle_linewise s w f) k)
    ∙ (gentle_settled s w f (line_of k s.lines) (own_key s k) (own-rule s g k) ∙ v k)
