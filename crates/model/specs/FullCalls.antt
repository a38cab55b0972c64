-- The operations on a plain sheet and a bookkeeping sheet without spares, beside a coordinator sheet: refusals 1, 2 and 13 first, then the operation on what the joined sheet
-- says. The functions that join both are lent the lines before the spares (TwoCalls has the sheets as they are).
use Rattle.std.specs.Prelude.{◌≡◌}
use Rattle.lists.specs.Basics.{ℕ, List}
use Rattle.model.specs.Records.{records_text}
use Rattle.model.specs.Refusals.{Condition, refusal_of}
use Rattle.model.specs.Writes.{Sheets}
use Rattle.model.specs.Results.{Answer, Response, refused, made, unless}
use Rattle.model.specs.ByteCalls.{sheets_of}
use Rattle.model.specs.Operations.{Operation, response}
use Rattle.model.specs.TwoSheets.{joined_sheet, plain_part, bookkeeping_part, full_conditions}

-- the bytes of all three sheets
pub record TwoBytes : Type 0 where
  pub plain : List ℕ
  pub bookkeeping : List ℕ
  pub coordinator : List ℕ

-- what they say, whatever their bytes
abbrev pub saying_full : TwoBytes → Sheets
saying_full b = sheets_of (joined_sheet b.plain b.bookkeeping) b.coordinator

-- what all calls ask of the sheets
abbrev pub full_conditions_of : TwoBytes → List Condition
full_conditions_of b = full_conditions b.plain b.bookkeeping b.coordinator

abbrev pub PassingFull : TwoBytes → Type 0
PassingFull b = refusal_of (full_conditions_of b) ≡ 0

abbrev pub on_full : {A E : Type 0} → TwoBytes → (Sheets → Response A E) → Response A E
on_full b call = unless (full_conditions_of b) (call (saying_full b))

unfoldable pub response_full : Operation → TwoBytes → Response Answer Sheets
response_full o b = on_full b (response o)

-- What is left, apart. A sheet is as it was where the operation is refused.

unfoldable pub full_plain_left : {A : Type 0} → List ℕ → Response A Sheets → List ℕ
full_plain_left ps (refused n) = ps
full_plain_left ps (made a s) = plain_part (records_text s.lines)

unfoldable pub full_bookkeeping_left : {A : Type 0} → List ℕ → Response A Sheets → List ℕ
full_bookkeeping_left bs (refused n) = bs
full_bookkeeping_left bs (made a s) = bookkeeping_part (records_text s.lines)
