-- The front's lines decide, where the sheet has its size.
use Rattle.std.proofs.Common.{◌∙◌}
use Rattle.lists.specs.Basics.{sym, ap, ℕ, length-take, take, arith, rules}
use Rattle.model.specs.Layouts.{record_bytes}
use Rattle.model.specs.Records.{records_accepted}
use Rattle.model.specs.Spares.{front}
use Rattle.sheet_laws.specs.Fronts.{sized-whole, filled_within}
use Rattle.record_check.specs.Sheet.{sheet_unsized, sheet-sized}
use Rattle.record_check.proofs.sheet_ok.Goals as goal

pub is_sized-requires : goal.is_sized-requires
is_sized-requires c =
    record { le_width = omega arith; width_le_record_bytes = omega arith }

pub returns-then-not-is_sized : goal.returns-then-not-is_sized
returns-then-not-is_sized c =
    let a = c.args in
    sym (sheet_unsized a.records.now (sym c.is_sized.ensures ∙ c.if-not-is_sized.true))

pub front_end-end-requires : goal.front_end-end-requires
front_end-end-requires c =
    let a = c.args in
    record { s_len = sized-whole record_bytes a.records.now ((sym c.is_sized.ensures ∙ c.if-not-is_sized.false)); le_width = omega arith; width_le_record_bytes = omega arith }

pub slice_bounds-records_ok-end : goal.slice_bounds-records_ok-end
slice_bounds-records_ok-end c =
    let a = c.args in
    simp length-take (omega (arith, c.front_end-end.ensures, sized-whole record_bytes a.records.now ((sym c.is_sized.ensures ∙ c.if-not-is_sized.false)), filled_within record_bytes (omega arith) a.records.now (sized-whole record_bytes a.records.now ((sym c.is_sized.ensures ∙ c.if-not-is_sized.false)))))

pub records_ok-requires : goal.records_ok-requires
records_ok-requires c = search rules

pub returns : goal.returns
unfolding front
returns c =
    let a = c.args in
    c.records_ok.ensures ∙ (ap (λ (n : ℕ). records_accepted (take n a.records.now)) c.front_end-end.ensures ∙ sym (sheet-sized a.records.now ((sym c.is_sized.ensures ∙ c.if-not-is_sized.false))))
