-- Each sheet gets its part of the line.
use Rattle.std.proofs.Common.{◌∙◌}
use Rattle.lists.specs.Basics.{ap, ℕ, List, length, arith, joined}
use Rattle.model.specs.Lines.{lines_of}
use Rattle.model.specs.TwoSheets.{plain_bytes, bookkeeping_bytes, plain_line, bookkeeping_line}
use Rattle.two_laws.specs.TwoLines.{length-plain_line, length-bookkeeping_line}
use Rattle.shifting.specs.Shifted.{insert_at}
use Rattle.adding.specs.Placing.{absent_wide}
use Rattle.two_adding.specs.Parts.{plain_alone_lem, bookkeeping_alone_lem}
use Rattle.two_adding.proofs.put_in.Goals as goal

pub split_plain-requires : goal.split_plain-requires
split_plain-requires c =
    let a = c.args in
    let e = (ap length c.absent_line-line.ensures ∙ absent_wide a.key c.requires.key_value) in omega (arith, e)

pub insert_line-requires : goal.insert_line-requires
insert_line-requires c =
    let a = c.args in
    record { s_len = c.requires.shiftable.plain; at_in_bounds = c.requires.shiftable.in_plain; text_len = ap length (c.split_plain.ensures ∙ plain_alone_lem _ (ap length c.absent_line-line.ensures ∙ absent_wide a.key c.requires.key_value)) ∙ length-plain_line _ (ap length c.absent_line-line.ensures ∙ absent_wide a.key c.requires.key_value) }

pub split_bookkeeping-requires : goal.split_bookkeeping-requires
split_bookkeeping-requires c =
    let a = c.args in
    let e = (ap length c.absent_line-line.ensures ∙ absent_wide a.key c.requires.key_value) in omega (arith, e)

pub insert_line-requires-2 : goal.insert_line-requires-2
insert_line-requires-2 c =
    let a = c.args in
    record { s_len = c.requires.shiftable.bookkeeping; at_in_bounds = omega (arith, c.requires.shiftable.in_bookkeeping); text_len = ap length (c.split_bookkeeping.ensures ∙ bookkeeping_alone_lem _ (ap length c.absent_line-line.ensures ∙ absent_wide a.key c.requires.key_value)) ∙ length-bookkeeping_line _ (ap length c.absent_line-line.ensures ∙ absent_wide a.key c.requires.key_value) }

pub returns : goal.returns
returns c =
    let a = c.args in
    record { plain = c.insert_line.ensures ∙ ap (λ (t : List ℕ). joined (insert_at a.at t (lines_of plain_bytes a.plain.now))) ((c.split_plain.ensures ∙ plain_alone_lem _ (ap length c.absent_line-line.ensures ∙ absent_wide a.key c.requires.key_value)) ∙ ap plain_line c.absent_line-line.ensures); bookkeeping = c.insert_line-2.ensures ∙ ap (λ (t : List ℕ). joined (insert_at a.at t (lines_of bookkeeping_bytes a.book.now))) ((c.split_bookkeeping.ensures ∙ bookkeeping_alone_lem _ (ap length c.absent_line-line.ensures ∙ absent_wide a.key c.requires.key_value)) ∙ ap bookkeeping_line c.absent_line-line.ensures) }
