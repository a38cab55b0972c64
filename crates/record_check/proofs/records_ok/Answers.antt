-- The law on accepted lines: whole, at most 500 of them, and they pass. What is lent is what the laws ask for, byte by byte.
use Rattle.std.specs.Prelude.{◌*◌, ◌/◌}
use Rattle.lists.specs.Basics.{refl, sym, and-false, length, arith, eq-eqb, ne_eqb, le-leb, lt-leb, joined, bytes}
use Rattle.decimal.specs.Field.{field_text, ahead}
use Rattle.model.specs.Layouts.{record_layout, words, record_bytes}
use Rattle.model.specs.Lines.{field_bytes}
use Rattle.model.specs.Records.{state_number, before_number}
use Rattle.line_bytes.specs.Tables.{columns, part_columns, layout_columns, lows, highs, alsos}
use Rattle.record_check.specs.Ranges.{opened}
use Rattle.record_check.specs.LayoutParts.{column_part, layout_parts}
use Rattle.record_check.specs.Limits.{narrowed, limited}
use Rattle.record_check.specs.States.{kinds, zeros, nothing_before, kind_limits, open_layout, kind_parts}
use Rattle.record_check.specs.Relations.{highest_clock}
use Rattle.record_check.specs.Tables.{middle, tables}
use Rattle.record_check.specs.Sheet.{lines_sized, accepted_is}
use Rattle.record_check.proofs.records_ok.Goals as goal

pub returns-then-n-records : goal.returns-then-n-records
unfolding lines_sized
returns-then-n-records c =
    let s = c.args.records.now in
    rw (accepted_is s, ne_eqb (length s) (length s / record_bytes * record_bytes) (λ q. c.if-n-records.true (sym q)))

pub returns-then-n-gt500 : goal.returns-then-n-gt500
unfolding lines_sized
returns-then-n-gt500 c =
    let s = c.args.records.now in
    rw (accepted_is s, lt-leb (length s / record_bytes) 500 c.if-n-gt500.true, and-false)

pub lines_pass-requires : goal.lines_pass-requires
unfolding tables joined lows highs alsos middle layout_columns part_columns columns kind_parts kind_limits layout_parts column_part limited narrowed kinds zeros nothing_before state_number before_number open_layout opened record_layout field_bytes field_text ahead words bytes highest_clock
lines_pass-requires c =
    record { s_len = sym c.if-n-records.false; lent_tables = refl; highest_clock = refl }

pub returns : goal.returns
unfolding lines_sized
returns c =
    let s = c.args.records.now in
    let n = length s / record_bytes in
    rw (accepted_is s, eq-eqb (length s) (n * record_bytes) (sym c.if-n-records.false), le-leb n 500 (omega arith))
    c.lines_pass.ensures
