-- What is asked at each index is asked of the entry there.
use Rattle.std.specs.Prelude.{◌&&◌}
use Rattle.std.proofs.Common.{◌∙◌, rules, tests}
use Rattle.std.proofs.lemmas.Iterator.{YieldsList-from_range}
use Rattle.std.proofs.lemmas.Iterator.Search.{any_from_yields_List}
use Rattle.lists.specs.Basics.{refl, ℕ, eqb, get_or, arith}
use Rattle.model.specs.Records.{no_record, records}
use Rattle.model.specs.Images.{prepared_by}
use Rattle.transactions.specs.Held.{has_room_lem}
use Rattle.group_writes.specs.Groups.{some_index}
use Rattle.closing.specs.Writes.{rolled_in_group, group_rolls, rolled_here}
use Rattle.closing.proofs.writes.rolls_group.Goals as goal

pub returns : goal.returns
returns c =
    let a = c.args in
    let rs = a.records.now in
    let cs = a.coordinator.now in
    let t = a.t in
    let l = a.located in
    let n = t.count in
    let q = λ (i : ℕ). eqb (get_or l.of i 0) t.place && prepared_by t.number (get_or (records rs) (get_or l.indices i 0) no_record) in
    any_from_yields_List q _ _ c.any.result c.any.ensures.ran (YieldsList-from_range 0 n n refl (omega arith)) (λ x b f k. search (rules, tests))
    ∙ (some_index t (has_room_lem t c.well_formed.0 c.requires.body.few) q (rolled_in_group rs cs t) (λ i m. rolled_here rs cs t l i c.requires m)
    ∙ group_rolls rs cs t)
