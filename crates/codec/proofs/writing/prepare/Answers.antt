-- The part where the line was found comes back as the text of its record prepared.
use Rattle.std.proofs.Common.{◌∙◌}
use Rattle.lists.specs.Basics.{sym, le-ltb}
use Rattle.model.specs.Images.{prepared}
use Rattle.codec.specs.Parts.{found-readable, found-changed, line-past}
use Rattle.codec.proofs.writing.prepare.Goals as goal

pub prepare_line-requires : goal.prepare_line-requires
prepare_line-requires c = found-readable c.args.records.now c.args.i _ (sym c.in-Some.is ∙ c.line_at.ensures) c.requires

pub returns-in-Some : goal.returns-in-Some
returns-in-Some c =
    let a = c.args in
    found-changed a.records.now a.i _ (sym c.in-Some.is ∙ c.line_at.ensures) (prepared a.n a.clock a.columns) _ c.prepare_line.auto.line c.prepare_line.ensures

pub returns-in_default : goal.returns-in_default
returns-in_default c = rw (le-ltb _ _ (line-past c.args.records.now c.args.i _ (sym c.in_default.is ∙ c.line_at.ensures)))
