-- The two parts lent are the lines at i.
use Rattle.std.proofs.Common.{◌∙◌}
use Rattle.lists.specs.Basics.{ap, ap₂, not, eq_list}
use Rattle.changes.specs.Lines.{line-part}
use Rattle.changes.proofs.line_differs.Goals as goal

pub returns : goal.returns
returns c =
    let a = c.args in
    c.ne.ensures ∙ ap not (ap₂ eq_list (line-part a.before.now a.i) (line-part a.after.now a.i))
