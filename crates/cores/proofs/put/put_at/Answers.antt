-- By the version that was read.
use Rattle.std.proofs.Common.{◌∙◌, Ok}
use Rattle.lists.specs.Basics.{sym, ap}
use Rattle.model.specs.Types.{Transaction}
use Rattle.answers.specs.Answers.{to_returned}
use Rattle.cores.specs.Putting.{put_late, put_made}
use Rattle.cores.proofs.put.put_at.Goals as goal

pub returns-then-e-ge99999 : goal.returns-then-e-ge99999
returns-then-e-ge99999 c =
    let a = c.args in
    ap (to_returned a.t) (sym (put_late a.t a.i a.columns (rw c.entry_at-e.ensures at c.if-e-ge99999.true)))

pub returns : goal.returns
returns c =
    let a = c.args in
    ap (λ (u : Transaction). Ok u) (rw c.entry_at-e.ensures at c.with_entry.ensures)
    ∙ ap (to_returned a.t) (sym (put_made a.t a.i a.columns (rw c.entry_at-e.ensures at c.if-e-ge99999.false)))
