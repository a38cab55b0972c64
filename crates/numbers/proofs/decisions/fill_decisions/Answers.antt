-- One turn reads a line and stores its decision: those before it are there.
use Rattle.std.specs.Prelude.{◌≡◌, ◌+◌, ◌*◌, ◌∷◌, ◌++◌}
use Rattle.std.proofs.Common.{◌∙◌, rules}
use Rattle.lists.specs.Basics.{refl, sym, ap, [], take, drop, length, length-append, length-take, length-drop, arith}
use Rattle.lists.specs.Chunks.{chunk_turn, chunk_end}
use Rattle.model.specs.Layouts.{layout, line_layout, coordinator_bytes}
use Rattle.model.specs.Lines.{row_of}
use Rattle.sheet_laws.specs.Lines.{line_bytes}
use Rattle.numbers.specs.DecisionFills.{read_first, read_next, read_last}
use Rattle.numbers.proofs.decisions.fill_decisions.Goals as goal

pub loop-i-init : goal.loop-i-init
loop-i-init c = (search rules, tt, read_first _ _ c.requires)

pub read_row-requires : goal.read_row-requires
unfolding layout line_layout line_bytes
read_row-requires c =
    let turn = chunk_turn coordinator_bytes (omega arith) c.args.lines.now _ _ _ c.loop-i.yielded (search rules) (search rules) (search rules) c.loop-i.yielded_by _ c.next.ensures.steps (c.in-Some.i, c.in-Some.line) c.in-Some.is in
    record { line_len = ap length turn.2 ∙ simp (length-take, length-drop) (omega (arith, turn.0)); row_len = refl }

pub loop-i-preserved : goal.loop-i-preserved
unfolding layout
loop-i-preserved c =
    let turn = chunk_turn coordinator_bytes (omega arith) c.args.lines.now _ _ _ c.loop-i.yielded (search rules) (search rules) (search rules) c.loop-i.yielded_by _ c.next.ensures.steps (c.in-Some.i, c.in-Some.line) c.in-Some.is in
    let k : length (c.loop-i.yielded ++ ((c.in-Some.i, c.in-Some.line) ∷ [])) ≡ c.in-Some.i + 1 = length-append c.loop-i.yielded _ ∙ omega (arith, turn.1) in
    let e : c.read_row.new.row ≡ row_of line_layout (take coordinator_bytes (drop (c.in-Some.i * coordinator_bytes) c.args.lines.now)) = c.read_row.ensures ∙ ap (row_of line_layout) (rw (sym turn.1) at turn.2) in
    (search rules, tt, rw k (read_next c.args.lines.now c.loop-i.numbers _ c.in-Some.i (omega (arith, turn.0, turn.1)) e (rw (sym turn.1) at c.loop-i.invariant.2)))

pub returns : goal.returns
returns c =
    let n = chunk_end coordinator_bytes (omega arith) c.args.lines.now _ _ _ c.loop-i.yielded (search rules) (search rules) (search rules) c.loop-i.yielded_by _ c.next.ensures.steps c.in-None.is in
    read_last c.args.lines.now c.loop-i.numbers (length c.loop-i.yielded) (omega (arith, n)) c.loop-i.invariant.2
