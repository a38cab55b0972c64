-- Case by case, as it is asked.
use Rattle.std.proofs.Common.{◌∙◌}
use Rattle.lists.specs.Basics.{sym, arith}
use Rattle.two_engine.specs.Forms.{plain_unsized, bookkeeping_unsized, as_many_lem, unequal_told}
use Rattle.two_engine.proofs.check_forms.Goals as goal

pub is_sized-requires : goal.is_sized-requires
is_sized-requires c =
    record { le_width = omega arith; width_le_record_bytes = omega arith }

pub returns-then-not-is_sized : goal.returns-then-not-is_sized
returns-then-not-is_sized c =
    let a = c.args in
    (plain_unsized a.plain.now a.book.now a.coordinator.now (sym c.is_sized.ensures ∙ c.if-not-is_sized.true)).0

pub is_sized-requires-2 : goal.is_sized-requires-2
is_sized-requires-2 c =
    record { le_width = omega arith; width_le_record_bytes = omega arith }

pub returns-then-not-is_sized-2 : goal.returns-then-not-is_sized-2
returns-then-not-is_sized-2 c =
    let a = c.args in
    (bookkeeping_unsized a.plain.now a.book.now a.coordinator.now ((sym c.is_sized.ensures ∙ c.if-not-is_sized.false)) (sym c.is_sized-2.ensures ∙ c.if-not-is_sized-2.true)).0

pub returns-then-plain-book : goal.returns-then-plain-book
returns-then-plain-book c =
    let a = c.args in
    (as_many_lem a.plain.now a.book.now a.coordinator.now ((sym c.is_sized.ensures ∙ c.if-not-is_sized.false)) ((sym c.is_sized-2.ensures ∙ c.if-not-is_sized-2.false)) c.if-plain-book.true).0

pub unequal-requires : goal.unequal-requires
unequal-requires c =
    ((sym c.is_sized.ensures ∙ c.if-not-is_sized.false), (sym c.is_sized-2.ensures ∙ c.if-not-is_sized-2.false))

pub returns : goal.returns
returns c =
    let a = c.args in
    unequal_told a.plain.now a.book.now a.coordinator.now ((sym c.is_sized.ensures ∙ c.if-not-is_sized.false)) ((sym c.is_sized-2.ensures ∙ c.if-not-is_sized-2.false)) c.if-plain-book.false _ c.unequal.ensures
