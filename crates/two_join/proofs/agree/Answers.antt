-- Whole lines, as many, or not; then line by line: the lines from i on agree as all do.
use Rattle.std.specs.Prelude.{◌*◌, ◌/◌, ◌≤◌, ◌≡◌}
use Rattle.std.proofs.Common.{◌∙◌}
use Rattle.lists.specs.Basics.{sym, true, false, arith, length, take, drop}
use Rattle.two_laws.specs.Deciding.{keys_agree}
use Rattle.two_join.specs.Agrees.{agree-first, agree_last, agree-whole, plain_cut_short, counts_differ, book_cut_short, agree_stop}
use Rattle.two_join.specs.Agrees.{agree_on}
use Rattle.model.specs.TwoSheets.{plain_bytes, bookkeeping_bytes}
use Rattle.two_join.proofs.agree.Goals as goal

pub returns-then-plain-n : goal.returns-then-plain-n
returns-then-plain-n c =
    let a = c.args in
    sym (plain_cut_short a.plain.now a.book.now c.if-plain-n.true)

pub returns-then-book-n : goal.returns-then-book-n
returns-then-book-n c =
    let a = c.args in
    sym (counts_differ a.plain.now a.book.now c.if-book-n.true)

pub returns-then-book-n-2 : goal.returns-then-book-n-2
returns-then-book-n-2 c =
    let a = c.args in
    sym (book_cut_short a.plain.now a.book.now c.if-book-n.false c.if-book-n-2.true)

pub loop-i-init : goal.loop-i-init
loop-i-init c =
    let a = c.args in
    (omega arith, agree-first a.plain.now a.book.now (length a.plain.now / plain_bytes))

pub returns-then-not-agree_at : goal.returns-then-not-agree_at
returns-then-not-agree_at c =
    let a = c.args in
    let l = c.loop-i in
    let p = c.args.plain.now in
    let b = c.args.book.now in
    let k : keys_agree (take plain_bytes (drop (l.i * plain_bytes) p)) (take bookkeeping_bytes (drop (l.i * bookkeeping_bytes) b)) ≡ false = sym c.agree_at.ensures ∙ c.if-not-agree_at.true in
    sym (agree-whole p b c.if-plain-n.false c.if-book-n.false c.if-book-n-2.false ∙ agree_stop p b (length p / plain_bytes) l.i c.loop-i-test.true l.invariant.1 k)

pub loop-i-preserved : goal.loop-i-preserved
loop-i-preserved c =
    let a = c.args in
    let l = c.loop-i in
    let p = c.args.plain.now in
    let b = c.args.book.now in
    let k : keys_agree (take plain_bytes (drop (l.i * plain_bytes) p)) (take bookkeeping_bytes (drop (l.i * bookkeeping_bytes) b)) ≡ true = sym c.agree_at.ensures ∙ c.if-not-agree_at.false in
    (omega (arith, c.loop-i-test.true), agree_on p b (length p / plain_bytes) l.i c.loop-i-test.true l.invariant.1 k)

pub returns : goal.returns
returns c =
    let a = c.args in
    let l = c.loop-i in
    let p = c.args.plain.now in
    let b = c.args.book.now in
    let m : length p / plain_bytes ≤ l.i = omega (arith, c.loop-i-test.false) in
    sym (agree-whole p b c.if-plain-n.false c.if-book-n.false c.if-book-n-2.false ∙ (sym l.invariant.1 ∙ agree_last p b (length p / plain_bytes) l.i m))
