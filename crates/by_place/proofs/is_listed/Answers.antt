-- The second test counts where the first holds.
use Rattle.std.specs.Prelude.{◌≡◌}
use Rattle.lists.specs.Basics.{refl, leb, true, false, le-leb, lt-leb}
use Rattle.model.specs.CallByPlace.{listed}
use Rattle.by_place.proofs.is_listed.Goals as goal

pub returns-then-length-le16 : goal.returns-then-length-le16
unfolding listed
returns-then-length-le16 c =
    let a = c.args in
    let e : leb a.length 16 ≡ true = le-leb a.length 16 c.if-length-le16.true in rw e refl

pub returns-else-length-le16 : goal.returns-else-length-le16
unfolding listed
returns-else-length-le16 c =
    let a = c.args in
    let e : leb a.length 16 ≡ false = lt-leb a.length 16 c.if-length-le16.false in rw e refl
