-- The rows before the spares decide, where the numbers have their size.
use Rattle.std.specs.Prelude.{◌*◌}
use Rattle.std.proofs.Common.{◌∙◌}
use Rattle.lists.specs.Basics.{sym, ap, ℕ, take, length-take, arith}
use Rattle.model.specs.Layouts.{record_fields}
use Rattle.model.specs.Records.{rows}
use Rattle.model.specs.SheetCalls.{rows_front}
use Rattle.sheet_laws.specs.Fronts.{sized-whole}
use Rattle.sheet_laws.specs.SparedNumbers.{rows-within}
use Rattle.numbers.specs.RowsPass.{rows_pass, rows_unsized, rows-sized}
use Rattle.numbers.proofs.rows.rows_ok.Goals as goal

pub returns-then-not-is_sized : goal.returns-then-not-is_sized
returns-then-not-is_sized c =
    let a = c.args in
    rows_unsized a.numbers.now (sym c.is_sized.ensures ∙ c.if-not-is_sized.true)

pub overflow_mul-end : goal.overflow_mul-end
overflow_mul-end c =
    let a = c.args in
    omega (arith, c.filled_rows-end.ensures, rows-within a.numbers.now (sized-whole record_fields a.numbers.now (sym c.is_sized.ensures ∙ c.if-not-is_sized.false)))

pub slice_bounds-rows_pass-end : goal.slice_bounds-rows_pass-end
slice_bounds-rows_pass-end c =
    let a = c.args in
    let l = rows-within a.numbers.now (sized-whole record_fields a.numbers.now (sym c.is_sized.ensures ∙ c.if-not-is_sized.false)) in let e = c.filled_rows-end.ensures in simp length-take (omega arith)

pub returns : goal.returns
unfolding rows_front
returns c =
    let a = c.args in
    c.rows_pass.ensures ∙ (ap (λ (n : ℕ). rows_pass (rows (take (n * record_fields) a.numbers.now))) c.filled_rows-end.ensures ∙ rows-sized a.numbers.now (sym c.is_sized.ensures ∙ c.if-not-is_sized.false))
