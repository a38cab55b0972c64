-- What is read before this turn is in the target, and the rest is still to come.
use Rattle.std.specs.Prelude.{◌≡◌, ◌+◌, ◌-◌, ◌*◌, ◌/◌, ◌∷◌, ◌++◌}
use Rattle.std.proofs.Common.{◌∙◌, rules}
use Rattle.lists.specs.Basics.{sym, ap, [], take, drop, length, length-append, length-take, length-drop, arith}
use Rattle.lists.specs.Chunks.{chunk_turn, chunk_end}
use Rattle.model.specs.Layouts.{layout, record_layout, record_bytes, record_fields}
use Rattle.model.specs.Lines.{line_text}
use Rattle.model.specs.Records.{rows}
use Rattle.sheet_laws.specs.Lines.{line_bytes}
use Rattle.numbers.specs.Filling.{made_first, made_next, made_last, made_room}
use Rattle.numbers.proofs.records.fill_records.Goals as goal

pub loop-i-init : goal.loop-i-init
loop-i-init c = (search rules, tt, made_first record_fields record_bytes (line_text record_layout) c.args.numbers.now (length c.args.numbers.now / record_fields) _ c.requires)

pub write_row-requires : goal.write_row-requires
unfolding layout record_layout line_bytes
write_row-requires c =
    let turn = chunk_turn record_fields (omega arith) c.args.numbers.now _ _ _ c.loop-i.yielded (search rules) (search rules) (search rules) c.loop-i.yielded_by _ c.next.ensures.steps (c.in-Some.i, c.in-Some.row) c.in-Some.is in
    let r = made_room record_fields record_bytes (line_text record_layout) c.args.numbers.now (length c.args.numbers.now / record_fields) c.loop-i.records (length c.loop-i.yielded) c.loop-i.invariant.2 in
    record { row_len = ap length turn.2 ∙ simp (length-take, length-drop) (omega (arith, turn.0)); line_len = simp (length-take, length-drop) (omega (arith, turn.0, turn.1, r)) }

pub loop-i-preserved : goal.loop-i-preserved
unfolding layout
loop-i-preserved c =
    let turn = chunk_turn record_fields (omega arith) c.args.numbers.now _ _ _ c.loop-i.yielded (search rules) (search rules) (search rules) c.loop-i.yielded_by _ c.next.ensures.steps (c.in-Some.i, c.in-Some.row) c.in-Some.is in
    let r = made_room record_fields record_bytes (line_text record_layout) c.args.numbers.now (length c.args.numbers.now / record_fields) c.loop-i.records (length c.loop-i.yielded) c.loop-i.invariant.2 in
    let k : length (c.loop-i.yielded ++ ((c.in-Some.i, c.in-Some.row) ∷ [])) ≡ c.in-Some.i + 1 = length-append c.loop-i.yielded _ ∙ omega (arith, turn.1) in
    let n : length c.write_row.new.line ≡ c.in-Some.i * record_bytes + record_bytes - c.in-Some.i * record_bytes = c.write_row.auto.line ∙ simp (length-take, length-drop) (omega (arith, turn.0, turn.1, r)) in
    let e : c.write_row.new.line ≡ (line_text record_layout) (take record_fields (drop (c.in-Some.i * record_fields) c.args.numbers.now)) = c.write_row.ensures ∙ ap (line_text record_layout) (rw (sym turn.1) at turn.2) in
    (search rules, tt, rw k (made_next record_fields record_bytes (line_text record_layout) c.args.numbers.now (length c.args.numbers.now / record_fields) _ _ c.in-Some.i (omega (arith, turn.0, turn.1)) n e (rw (sym turn.1) at c.loop-i.invariant.2)))

pub returns : goal.returns
unfolding rows
returns c =
    let n = chunk_end record_fields (omega arith) c.args.numbers.now _ _ _ c.loop-i.yielded (search rules) (search rules) (search rules) c.loop-i.yielded_by _ c.next.ensures.steps c.in-None.is in
    made_last record_fields record_bytes (line_text record_layout) c.args.numbers.now (length c.args.numbers.now / record_fields) c.loop-i.records (length c.loop-i.yielded) (omega (arith, n)) c.loop-i.invariant.2
