-- A line with the image before put over its own, or with its own where it is, is the text of its record settled.
use Rattle.std.proofs.Common.{◌∙◌}
use Rattle.lists.specs.Basics.{sym, ap, ℕ, true, false, List, arith, le-ltb}
use Rattle.lists.specs.Pieces.{over-same}
use Rattle.model.specs.Layouts.{offset, record_layout, image_layout, record_offset, image_field, image_bytes}
use Rattle.sheet_laws.specs.Changed.{nothing_text, state_over, settled_over, settled_as, line-settled}
use Rattle.codec.specs.Parts.{found-length, found-readable, found-changed, line-past}
use Rattle.codec.proofs.settling.settle.Goals as goal

pub restore_line-requires : goal.restore_line-requires
restore_line-requires c = found-length c.args.records.now c.args.i _ (sym c.in-Some.is ∙ c.line_at.ensures)

pub settle_line-requires : goal.settle_line-requires
settle_line-requires c = found-length c.args.records.now c.args.i _ (sym c.in-Some.is ∙ c.line_at.ensures)

pub returns-then-before : goal.returns-then-before
returns-then-before c =
    let a = c.args in
    let at = sym c.in-Some.is ∙ c.line_at.ensures in
    let set = (found-readable a.records.now a.i _ at c.requires).set in
    rw c.if-before.true
    (found-changed a.records.now a.i _ at (settled_as a.state true) _ c.restore_line.auto.line (c.restore_line.ensures ∙ line-settled _ set a.state true))

pub returns-else-before : goal.returns-else-before
unfolding offset record_layout image_layout
returns-else-before c =
    let a = c.args in
    let at = sym c.in-Some.is ∙ c.line_at.ensures in
    let n = found-length a.records.now a.i _ at in
    let same = over-same _ (record_offset image_field) image_bytes (omega (arith, n)) in
    let set = (found-readable a.records.now a.i _ at c.requires).set in
    rw c.if-before.false
    (found-changed a.records.now a.i _ at (settled_as a.state false) _ c.settle_line.auto.line
    (c.settle_line.ensures ∙ (ap (λ (x : List ℕ). settled_over nothing_text (state_over a.state x)) (sym same) ∙ line-settled _ set a.state false)))

pub returns-in_default : goal.returns-in_default
returns-in_default c = rw (le-ltb _ _ (line-past c.args.records.now c.args.i _ (sym c.in_default.is ∙ c.line_at.ensures)))
