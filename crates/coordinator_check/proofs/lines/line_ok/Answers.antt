-- The code's two numbers are those of the law on a line. Their sum fits, since the table leaves room.
use Rattle.lists.specs.Basics.{arith, rules}
use Rattle.coordinator_check.specs.Lines.{told, line_is}
use Rattle.coordinator_check.proofs.lines.line_ok.Goals as goal

pub bounds-words-i : goal.bounds-words-i
bounds-words-i c = let n = c.requires.table.eight in search rules

pub overflow_add-result : goal.overflow_add-result
overflow_add-result c =
    let i = told c.load-last.result in
    omega (arith, c.requires.table.room i (omega arith))

pub bounds-words-i-2 : goal.bounds-words-i-2
bounds-words-i-2 c = let n = c.requires.table.eight in search rules

pub returns : goal.returns
returns c =
    let a = c.args in
    let front = c.load in
    let back = c.load-last in
    line_is a.number front.result back.result a.start a.words.now a.sheet.now front.ensures.value back.ensures.value
