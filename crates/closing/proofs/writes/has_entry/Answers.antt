-- What is asked of each place is asked of the entry there.
use Rattle.std.specs.Prelude.{◌≡◌, ◌<◌}
use Rattle.std.proofs.Common.{◌∙◌, rules}
use Rattle.std.proofs.Math.Seq.{length-take-le}
use Rattle.lists.specs.Basics.{sym, ap, ℕ, eqb, get_or-take, take, length, arith}
use Rattle.lists.specs.Alike.{any_alike}
use Rattle.model.specs.Transactions.{held, no_entry}
use Rattle.transactions.specs.Held.{has_room_lem}
use Rattle.group_writes.specs.Groups.{of_group}
use Rattle.closing.specs.Writes.{group_some}
use Rattle.closing.proofs.writes.has_entry.Goals as goal

pub returns : goal.returns
unfolding held
returns c =
    let a = c.args in
    let t = a.t in
    let cs = a.coordinator.now in
    let l = a.located in
    let room = has_room_lem t c.well_formed.0 c.requires.body.few in
    let eight : length l.of ≡ 8 = search rules in
    let m = length-take-le t.count l.of (omega (arith, eight, c.requires.body.few)) in
    let n = length-take-le t.count t.entries room in
    c.contains.ensures.value
    ∙ (any_alike (λ (x : ℕ). eqb x t.place) (of_group cs t) (take t.count l.of) (take t.count t.entries) 0 no_entry (m ∙ sym n)
    (λ i h. let k : i < t.count = omega (arith, h, n) in
    ap (λ (x : ℕ). eqb x t.place) (get_or-take t.count l.of i 0 k) ∙ (c.requires.grouped.own i k ∙ ap (of_group cs t) (sym (get_or-take t.count t.entries i no_entry k))))
    ∙ group_some a.records.now cs t)
