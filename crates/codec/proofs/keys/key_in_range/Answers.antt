-- Five tests by the columns of a key, which are those of the definition.
use Rattle.model.specs.Layouts.{key_layout, record_layout}
use Rattle.sheet_laws.specs.Keys.{key_tests}
use Rattle.codec.proofs.keys.key_in_range.Goals as goal

pub returns : goal.returns
unfolding key_layout record_layout
returns c =
    key_tests c.args.key _ _ _ _ _
    c.in_range.ensures
    c.in_range-2.ensures
    c.in_range-3.ensures
    c.in_range-4.ensures
    c.in_range-5.ensures
