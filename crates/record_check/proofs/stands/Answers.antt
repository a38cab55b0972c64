-- Both parts, the first column and LF, by the law on the tables of a kind.
use Rattle.lists.specs.Basics.{sym, and-false, arith}
use Rattle.record_check.specs.Tables.{tables_are}
use Rattle.record_check.proofs.stands.Goals as goal

pub part_stands-requires : goal.part_stands-requires
part_stands-requires c =
    let pre = c.requires in
    record { line_len = pre.line_len; lent_tables = pre.lent_tables; known_kind = pre.known_kind; from_le_end = omega arith; end_le_row_bytes = omega arith }

pub returns-then-not-part_stands : goal.returns-then-not-part_stands
returns-then-not-part_stands c =
    let f = sym c.if-not-part_stands.ensures in
    rw f at (tables_are c.args.kind c.requires.known_kind c.args.line.now c.requires.line_len)

pub part_stands-requires-2 : goal.part_stands-requires-2
part_stands-requires-2 c =
    let pre = c.requires in
    record { line_len = pre.line_len; lent_tables = pre.lent_tables; known_kind = pre.known_kind; from_le_end = omega arith; end_le_row_bytes = omega arith }

pub returns-then-not-part_stands-2 : goal.returns-then-not-part_stands-2
returns-then-not-part_stands-2 c =
    let f = sym c.if-not-part_stands-2.ensures in
    rw (f, and-false) at (tables_are c.args.kind c.requires.known_kind c.args.line.now c.requires.line_len)

pub returns : goal.returns
returns c =
    let f = sym c.if-not-part_stands.ensures in
    let g = sym c.if-not-part_stands-2.ensures in
    rw (f, g) at (tables_are c.args.kind c.requires.known_kind c.args.line.now c.requires.line_len)
