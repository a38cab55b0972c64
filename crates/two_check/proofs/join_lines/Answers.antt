-- By whether the keys agree: then the joined sheet decides, else either sheet alone.
use Rattle.std.proofs.Common.{◌∙◌}
use Rattle.lists.specs.Basics.{sym, take, length-take, arith}
use Rattle.model.specs.TwoSheets.{plain_bytes}
use Rattle.lists.specs.Fill.{front_length}
use Rattle.two_check.specs.Areas.{joined_size, front_is, joined_sizes, lines_differ, lines_many, lines_bad, lines_good}
use Rattle.two_check.proofs.join_lines.Goals as goal

pub returns-then-not-agree : goal.returns-then-not-agree
returns-then-not-agree c =
    let a = c.args in
    lines_differ a.plain.now a.book.now _ (sym c.if-not-agree.true ∙ c.agree.ensures) c.apart.ensures

pub returns-then-lines-gt500 : goal.returns-then-lines-gt500
returns-then-lines-gt500 c =
    let a = c.args in
    lines_many a.plain.now a.book.now _ (sym c.if-not-agree.false ∙ c.agree.ensures) c.if-lines-gt500.true

pub slice_bounds-both_join-end : goal.slice_bounds-both_join-end
slice_bounds-both_join-end c = omega (arith, c.requires.0 (omega (arith, c.if-lines-gt500.false)))

pub slice_bounds-both_join-end-2 : goal.slice_bounds-both_join-end-2
slice_bounds-both_join-end-2 c =
    simp length-take (omega (arith, c.requires.0 (omega (arith, c.if-lines-gt500.false))))

pub both_join-requires : goal.both_join-requires
both_join-requires c =
    let a = c.args in
    let all = joined_sizes a.plain.now a.book.now (sym c.if-not-agree.false ∙ c.agree.ensures) (take (joined_size plain_bytes a.plain.now) a.area.now) (simp length-take (omega (arith, c.requires.0 (omega (arith, c.if-lines-gt500.false))))) in
    record { plain_len = all.0; book_len = all.1.0; target_len = all.1.1 }

pub returns-then-not-both_join : goal.returns-then-not-both_join
returns-then-not-both_join c =
    let a = c.args in
    lines_bad a.plain.now a.book.now _ (sym c.if-not-agree.false ∙ c.agree.ensures) _ c.both_join.ensures.answer c.if-not-both_join.true

pub returns : goal.returns
returns c =
    let a = c.args in
    let l = c.requires.0 (omega (arith, c.if-lines-gt500.false)) in
    lines_good a.plain.now a.book.now _ (sym c.if-not-agree.false ∙ c.agree.ensures) _ (omega (arith, front_length (joined_size plain_bytes a.plain.now) c.both_join.new.target a.area.now c.both_join.auto.target l, l)) (front_is (joined_size plain_bytes a.plain.now) c.both_join.new.target a.area.now c.both_join.auto.target l ∙ c.both_join.ensures.joined) c.both_join.ensures.answer c.if-not-both_join.false
