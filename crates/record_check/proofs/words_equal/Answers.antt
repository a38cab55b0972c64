-- The words in the tables are those of the kind.
use Rattle.std.proofs.Common.{◌∙◌}
use Rattle.lists.specs.Basics.{ap, length, arith}
use Rattle.model.specs.Layouts.{record_layout, offset}
use Rattle.sheet_laws.specs.Lines.{field_at}
use Rattle.record_check.specs.States.{kinds}
use Rattle.record_check.specs.Line.{words_held}
use Rattle.record_check.specs.Tables.{tables-length, table_state, table_prior}
use Rattle.record_check.proofs.words_equal.Goals as goal

pub ten_equal-state-requires : goal.ten_equal-state-requires
unfolding kinds
ten_equal-state-requires c =
    let l = ap length c.requires.lent_tables ∙ tables-length in
    let few = c.requires.known_kind in
    record { a_in_bounds = omega arith; b_in_bounds = omega arith }

pub ten_equal-before-requires : goal.ten_equal-before-requires
unfolding kinds
ten_equal-before-requires c =
    let l = ap length c.requires.lent_tables ∙ tables-length in
    let few = c.requires.known_kind in
    record { a_in_bounds = omega arith; b_in_bounds = omega arith }

pub returns : goal.returns
unfolding words_held field_at offset record_layout
returns c =
    let a = c.args in
    let kind = c.args.kind in
    rw (c.ten_equal-state.ensures, c.ten_equal-before.ensures, c.requires.lent_tables, table_state kind c.requires.known_kind, table_prior kind c.requires.known_kind)
