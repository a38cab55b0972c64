-- Eight bytes of the line as a number are compared with those of the words, one byte with that of a before state, and the rest is what the definition names.
use Rattle.std.specs.Prelude.{◌≡◌, ◌+◌, ◌*◌}
use Rattle.std.proofs.Common.{◌∙◌}
use mir.Val.{bool_byte}
use Rattle.lists.specs.Basics.{refl, Bool, true, false, arith, bytes}
use Rattle.line_bytes.specs.Tables.{bit}
use Rattle.model.specs.Layouts.{record_layout, words, offset}
use Rattle.line_bytes.specs.Loads.{loaded}
use Rattle.record_check.specs.States.{kinds, kind_told}
use Rattle.record_check.specs.Line.{kind_of, kind_known}
use Rattle.record_check.proofs.kind.Goals as goal

-- a test as a number
from_bit : (t : Bool) → bool_byte t ≡ bit t
from_bit true = refl
from_bit false = refl

pub returns : goal.returns
unfolding kinds words bytes loaded kind_of kind_told offset record_layout
returns c =
    let a = c.args in
    let line = c.args.line.now in
    let told : c.from-committed.result + c.from-prepared.result * 2 + c.from-over_committed.result ≡ kind_of line = rw (c.from-over_committed.ensures ∙ from_bit _, c.from-prepared.ensures ∙ from_bit _, c.from-committed.ensures ∙ from_bit _, c.load-front.ensures.value) in
    record { value = told; upper_bound = omega (arith, told, kind_known line) }
