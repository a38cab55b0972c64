-- The law on a line, test by test: a line that has not the words of its kind is not good, each later test that fails makes the answer false, and past them
-- the clock is the answer, by its first digit where that is enough.
use Rattle.std.specs.Prelude.{◌≡◌}
use Rattle.std.proofs.Common.{◌∙◌}
use Rattle.lists.specs.Basics.{sym, ap, and-false, length, arith, bytes}
use Rattle.model.specs.Layouts.{record_layout, offset}
use Rattle.record_check.specs.Relations.{highest_clock, clock_fits}
use Rattle.record_check.specs.Line.{wordless, low_clock, line_for, by_clock}
use Rattle.record_check.proofs.line_good.Goals as goal

pub returns-then-not-words_equal : goal.returns-then-not-words_equal
returns-then-not-words_equal c =
    let f = sym c.if-not-words_equal.ensures in
    sym (wordless c.args.line.now (λ i. (c.type_inv.line i).fits) (rw c.kind-kind.ensures.value at f))

pub returns-then-not-stands : goal.returns-then-not-stands
returns-then-not-stands c =
    rw (line_for c.args.line.now (λ i. (c.type_inv.line i).fits) c.kind-kind.result c.kind-kind.ensures.value, sym c.if-not-stands.ensures)

pub returns-then-not-related : goal.returns-then-not-related
returns-then-not-related c =
    rw (line_for c.args.line.now (λ i. (c.type_inv.line i).fits) c.kind-kind.result c.kind-kind.ensures.value, sym c.if-not-related.ensures, and-false)

pub returns-then-line-lt52 : goal.returns-then-line-lt52
unfolding offset record_layout
returns-then-line-lt52 c =
    let line = c.args.line.now in
    let kind = c.kind-kind in
    let stood = sym c.if-not-stands.ensures in
    sym (by_clock line (λ i. (c.type_inv.line i).fits) kind.result kind.ensures.value stood (sym c.if-not-related.ensures)
    ∙ low_clock line (λ i. (c.type_inv.line i).fits) kind.result kind.ensures.upper_bound stood c.if-line-lt52.true)

pub twelve_less-requires : goal.twelve_less-requires
unfolding highest_clock bytes
twelve_less-requires c =
    let l : length c.args.highest.now ≡ 12 = ap length c.requires.highest_clock in
    record { a_in_bounds = omega arith; b_in_bounds = omega arith }

pub returns : goal.returns
unfolding clock_fits highest_clock bytes offset record_layout
returns c =
    rw (
      by_clock c.args.line.now (λ i. (c.type_inv.line i).fits) c.kind-kind.result c.kind-kind.ensures.value (sym c.if-not-stands.ensures) (sym c.if-not-related.ensures),
      c.twelve_less.ensures,
      c.requires.highest_clock,
    )
