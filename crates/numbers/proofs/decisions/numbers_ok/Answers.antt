-- The tests in the order in which the acceptance of numbers lists them, up to the first that fails.
use Rattle.std.specs.Prelude.{◌≡◌}
use Rattle.std.proofs.Common.{◌∙◌}
use Rattle.lists.specs.Basics.{sym, ap, ℕ, List, true, map, take, drop, length-take, arith, le-leb, lt-leb}
use Rattle.lists.specs.Fill.{rest_part}
use Rattle.model.specs.Layouts.{layout, head_layout, head_fields}
use Rattle.model.specs.Lines.{row_good}
use Rattle.model.specs.Coordinator.{letter_of, all_capitals}
use Rattle.numbers.specs.Decisions.{decisions_pass, accepted_numbers}
use Rattle.numbers.proofs.decisions.numbers_ok.Goals as goal

pub returns-then-numbers-lt-HEAD_FIELDS : goal.returns-then-numbers-lt-HEAD_FIELDS
returns-then-numbers-lt-HEAD_FIELDS c = rw (accepted_numbers, lt-leb _ _ c.if-numbers-lt-HEAD_FIELDS.true)

pub slice_bounds-row_good-end : goal.slice_bounds-row_good-end
slice_bounds-row_good-end c = simp length-take (omega arith)

pub row_good-requires : goal.row_good-requires
unfolding head_layout layout
row_good-requires c = simp length-take (omega arith)

pub returns-then-not-row_good : goal.returns-then-not-row_good
unfolding layout
returns-then-not-row_good c =
    let g = sym c.row_good.ensures ∙ c.if-not-row_good.true in
    rw (accepted_numbers, le-leb _ _ c.if-numbers-lt-HEAD_FIELDS.false, g)

pub returns-then-not-capitals : goal.returns-then-not-capitals
unfolding layout
returns-then-not-capitals c =
    let g : row_good head_layout (take head_fields c.args.numbers.now) ≡ true = sym c.row_good.ensures ∙ c.if-not-row_good.false in
    let k = sym c.capitals.ensures ∙ c.if-not-capitals.true in
    rw (accepted_numbers, le-leb _ _ c.if-numbers-lt-HEAD_FIELDS.false, g, k)

pub returns-then-n-lt1 : goal.returns-then-n-lt1
unfolding layout
returns-then-n-lt1 c =
    let g : row_good head_layout (take head_fields c.args.numbers.now) ≡ true = sym c.row_good.ensures ∙ c.if-not-row_good.false in
    let k : all_capitals (map letter_of (take 9 (drop 1 c.args.numbers.now))) ≡ true = sym c.capitals.ensures ∙ c.if-not-capitals.false in
    rw (accepted_numbers, le-leb _ _ c.if-numbers-lt-HEAD_FIELDS.false, g, k, lt-leb _ _ c.if-n-lt1.true)

pub returns-then-n-gt999 : goal.returns-then-n-gt999
unfolding layout
returns-then-n-gt999 c =
    let g : row_good head_layout (take head_fields c.args.numbers.now) ≡ true = sym c.row_good.ensures ∙ c.if-not-row_good.false in
    let k : all_capitals (map letter_of (take 9 (drop 1 c.args.numbers.now))) ≡ true = sym c.capitals.ensures ∙ c.if-not-capitals.false in
    rw (accepted_numbers, le-leb _ _ c.if-numbers-lt-HEAD_FIELDS.false, g, k, le-leb _ _ c.if-n-lt1.false, lt-leb _ _ c.if-n-gt999.true)

pub returns-then-n-issued : goal.returns-then-n-issued
unfolding layout
returns-then-n-issued c =
    let g : row_good head_layout (take head_fields c.args.numbers.now) ≡ true = sym c.row_good.ensures ∙ c.if-not-row_good.false in
    let k : all_capitals (map letter_of (take 9 (drop 1 c.args.numbers.now))) ≡ true = sym c.capitals.ensures ∙ c.if-not-capitals.false in
    rw (accepted_numbers, le-leb _ _ c.if-numbers-lt-HEAD_FIELDS.false, g, k, le-leb _ _ c.if-n-lt1.false, le-leb _ _ c.if-n-gt999.false, lt-leb _ _ c.if-n-issued.true)

pub returns : goal.returns
unfolding layout
returns c =
    let g : row_good head_layout (take head_fields c.args.numbers.now) ≡ true = sym c.row_good.ensures ∙ c.if-not-row_good.false in
    let k : all_capitals (map letter_of (take 9 (drop 1 c.args.numbers.now))) ≡ true = sym c.capitals.ensures ∙ c.if-not-capitals.false in
    rw (accepted_numbers, le-leb _ _ c.if-numbers-lt-HEAD_FIELDS.false, g, k, le-leb _ _ c.if-n-lt1.false, le-leb _ _ c.if-n-gt999.false, le-leb _ _ c.if-n-issued.false)
    (c.decisions_pass.ensures ∙ ap (decisions_pass _) (rest_part head_fields c.args.numbers.now))
