-- What is asked at each index is asked of the entry there.
use Rattle.std.specs.Prelude.{◌||◌}
use Rattle.std.proofs.Common.{◌∙◌, rules, tests}
use Rattle.std.proofs.lemmas.Iterator.{YieldsList-from_range}
use Rattle.std.proofs.lemmas.Iterator.Search.{all_from_yields_List}
use Rattle.lists.specs.Basics.{refl, ap, ℕ, Bool, not, eqb, get_or, arith}
use Rattle.model.specs.Steps.{holds}
use Rattle.model.specs.ByteCalls.{sheets_of}
use Rattle.transactions.specs.Held.{entry_at, has_room_lem}
use Rattle.group_writes.specs.Groups.{holds_in_group, group-all, every_index}
use Rattle.group_writes.specs.Ready.{has_letters, units}
use Rattle.group_writes.proofs.groups.group_holds.Goals as goal

pub slice_bounds-letters-end : goal.slice_bounds-letters-end
slice_bounds-letters-end c = omega (arith, has_letters _ _ _ _ c.requires)

pub returns : goal.returns
returns c =
    let a = c.args in
    let rs = a.records.now in
    let cs = a.coordinator.now in
    let t = a.t in
    let l = a.located in
    let n = t.count in
    let s = sheets_of rs cs in
    let u = units _ _ _ _ c.requires in
    let q = λ (i : ℕ). not (eqb (get_or l.of i 0) t.place) || holds s (entry_at t i) in
    all_from_yields_List q _ _ c.all.result c.all.ensures.ran (YieldsList-from_range 0 n n refl (omega arith)) (λ x b f k. let h = u in search (rules, tests))
    ∙ (every_index t (has_room_lem t c.well_formed.1.1.0 c.requires.body.few) q (holds_in_group rs cs t)
    (λ i m. ap (λ (b : Bool). not b || holds s (entry_at t i)) (c.requires.grouped.own i m))
    ∙ group-all rs cs t)
