-- The bytes behind zeros, as the library adds up eight.
use Rattle.std.proofs.Common.{◌∙◌}
use Rattle.line_bytes.specs.Order.{number_is, number_within}
use Rattle.line_bytes.proofs.number.Goals as goal

pub returns-clause-value : goal.returns-clause-value
returns-clause-value g c =
    let a = c.args in
    c.from_be_bytes.ensures ∙ number_is a.s.now _ g.row.N a.at c.requires.few c.requires.in_bounds c.copy_from_slice.ensures.after

pub returns-clause-upper_bound : goal.returns-clause-upper_bound
returns-clause-upper_bound g c =
    let a = c.args in
    rw (c.from_be_bytes.ensures, number_is a.s.now _ g.row.N a.at c.requires.few c.requires.in_bounds c.copy_from_slice.ensures.after)
    (number_within a.s.now g.row.N a.at (λ i. (c.type_inv.s i).fits) c.requires.in_bounds)
