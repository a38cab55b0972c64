-- The entries before i are placed, and there are as many groups as last puts.
use Rattle.std.specs.Prelude.{◌≡◌, ◌≤◌, ◌<◌, Option, is_some}
use Rattle.std.specs.List.{filter}
use Rattle.std.proofs.Common.{◌∙◌, rules, tests}
use Rattle.std.proofs.lemmas.Iterator.{YieldsList-from_slice}
use Rattle.std.proofs.lemmas.Iterator.Consumers.{YieldsList-from_filter, count_from_yields_List}
use Rattle.lists.specs.Basics.{sym, ap, ap₂, List, ℕ, map, length, get_or, length-map, get_or-map, arith}
use Rattle.lists.specs.All.{get_or_any}
use Rattle.model.specs.Types.{Entry, Key}
use Rattle.model.specs.Transactions.{held, puts, no_entry}
use Rattle.model.specs.Groups.{group_count}
use Rattle.transactions.specs.Held.{has_room_lem, length_mapped}
use Rattle.transactions.specs.Units.{units_in}
use Rattle.put_groups.specs.Scopes.{place_in}
use Rattle.put_groups.specs.GroupsIn.{filled_next, filled_last, group_of, no_groups, count_found, place_found, groups_few, groups_in}
use Rattle.put_groups.proofs.groups_of.Goals as goal

pub loop-i-preserved : goal.loop-i-preserved
loop-i-preserved c =
    let us = units_in c.args.letters.now in
    let t = c.args.t in
    let es = held t in
    let i = c.loop-i.i in
    let n = ap length c.held-e-items.ensures.entries in
    let few = c.held-e-items.ensures.few in
    let l : i < length es = omega (arith, c.loop-i-test.true, n) in
    let placed : List ℕ = map (group_of us t) es in
    let many : length placed ≡ length es = length-map es (group_of us t) in
    let v : c.place_of.result ≡ get_or placed i 0 =
    c.place_of.ensures
    ∙ (ap₂ (λ (ls : List (Option Key)) (xs : List Entry). place_in us ls (get_or xs i no_entry)) c.lasts_of-lasts.ensures c.held-e-items.ensures.entries
    ∙ (place_found us t (get_or es i no_entry)
    ∙ sym (get_or_any placed i 0 (group_of us t no_entry) (omega (arith, l, many)) ∙ get_or-map (group_of us t) es i no_entry))) in
    (omega (arith, l), rw c.loop-i.invariant.1 (filled_next placed no_groups 0 c.place_of.result i (omega (arith, l, many)) (omega (arith, l, n, few)) v))

count_is : (c : goal.After-count) → c.count.result ≡ group_count (units_in c.args.letters.now) (puts c.args.t)
count_is c =
    count_from_yields_List c.filter.result c.count.result c.count.ensures.ran
    (YieldsList-from_filter _ is_some (YieldsList-from_slice c.lasts_of-lasts.result cc) c.filter.ensures.closure (λ x b f h. search (rules, tests)))
    ∙ (ap (λ (ls : List _). length (filter is_some ls)) c.lasts_of-lasts.ensures ∙ count_found (units_in c.args.letters.now) c.args.t)

pub overflow_cast-result : goal.overflow_cast-result
overflow_cast-result c =
    let h : c.count.result ≤ 8 = omega (arith, count_is c, groups_few (units_in c.args.letters.now) c.args.t, c.requires) in
    search rules

pub returns-clause-count : goal.returns-clause-count
returns-clause-count c = count_is c

pub returns-clause-places : goal.returns-clause-places
unfolding groups_in
returns-clause-places c =
    let us = units_in c.args.letters.now in
    let t = c.args.t in
    let es = held t in
    let n = ap length c.held-e-items.ensures.entries in
    let room = has_room_lem t c.well_formed.1.0 c.requires in
    let many : length (map (group_of us t) es) ≡ t.count = length_mapped t room (group_of us t) in
    c.loop-i.invariant.1 ∙ filled_last (map (group_of us t) es) no_groups t.count c.loop-i.i many (omega (arith, many, length-map es (group_of us t), c.loop-i.invariant.0)) (omega (arith, n, many, length-map es (group_of us t), c.loop-i-test.false))
