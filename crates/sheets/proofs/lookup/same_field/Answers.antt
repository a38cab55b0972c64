-- The parts lent are the key field of the line and of the key line; the edges bound them.
use Rattle.std.proofs.Common.{◌∙◌}
use Rattle.lists.specs.Basics.{sym, ap, arith, eq_list}
use Rattle.sheets.specs.Search.{edge, edges, key_field, field_of_text}
use Rattle.sheets.proofs.lookup.same_field.Goals as goal

pub overflow_add-a : goal.overflow_add-a
unfolding edge
overflow_add-a c = let e = edges c.args.f c.requires.0 in omega arith

pub overflow_add-e : goal.overflow_add-e
unfolding edge
overflow_add-e c = let e = edges c.args.f c.requires.0 in omega arith

pub slice_bounds-same-count : goal.slice_bounds-same-count
unfolding edge
slice_bounds-same-count c = let e = edges c.args.f c.requires.0 in omega arith

pub slice_bounds-same-start : goal.slice_bounds-same-start
unfolding edge
slice_bounds-same-start c = let e = edges c.args.f c.requires.0 in omega arith

pub slice_bounds-same-end : goal.slice_bounds-same-end
unfolding edge
slice_bounds-same-end c = let e = edges c.args.f c.requires.0 in omega arith

pub slice_bounds-same-count-2 : goal.slice_bounds-same-count-2
unfolding edge
slice_bounds-same-count-2 c = let e = edges c.args.f c.requires.0 in omega arith

pub slice_bounds-same-start-2 : goal.slice_bounds-same-start-2
unfolding edge
slice_bounds-same-start-2 c = let e = edges c.args.f c.requires.0 in omega arith

pub slice_bounds-same-end-2 : goal.slice_bounds-same-end-2
unfolding edge
slice_bounds-same-end-2 c = let e = edges c.args.f c.requires.0 in omega arith

pub returns : goal.returns
unfolding edge
returns c =
    let a = c.args in
    c.same.ensures
    ∙ ap (eq_list (key_field a.f a.at a.records.now)) (sym (field_of_text a.text.now a.f))
