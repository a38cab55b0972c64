-- Each test is one of `sheet_made`, in its order, and `sheet_made` is whether the sheet keeps the rules.
use Rattle.std.proofs.Common.{◌∙◌}
use Rattle.std.specs.Prelude.{Some, None}
use Rattle.lists.specs.Basics.{sym}
use Rattle.coordinator_check.specs.Sheet.{of_number, unread-whole, unread_letters, read_by_count}
use Rattle.coordinator_check.proofs.coordinator_readable.Goals as goal

pub returns-then-not-whole_lines : goal.returns-then-not-whole_lines
returns-then-not-whole_lines c = unread-whole c.args.coordinator.now (λ i. (c.type_inv.coordinator i).fits) (sym c.if-not-whole_lines.ensures.value)

pub returns-then-not-letters_ok : goal.returns-then-not-letters_ok
returns-then-not-letters_ok c = unread_letters c.args.coordinator.now (λ i. (c.type_inv.coordinator i).fits) (sym c.if-not-whole_lines.ensures.value) (sym c.if-not-letters_ok.ensures)

pub returns-in_default : goal.returns-in_default
unfolding of_number
returns-in_default c = read_by_count c.args.coordinator.now (λ i. (c.type_inv.coordinator i).fits) None (sym c.if-not-whole_lines.ensures.value) (sym c.if-not-letters_ok.ensures) c.in_default.ensures

pub returns : goal.returns
unfolding of_number
returns c =
    c.decisions_ok.ensures
    ∙ read_by_count c.args.coordinator.now (λ i. (c.type_inv.coordinator i).fits) (Some c.in-Some.issued) (sym c.if-not-whole_lines.ensures.value) (sym c.if-not-letters_ok.ensures) c.in-Some.ensures
