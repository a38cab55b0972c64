-- Each return is one case of `gained`.
use Rattle.lists.specs.Basics.{arith, eq-eqb, ne_eqb}
use Rattle.coordinator_check.proofs.lines.gain.Goals as goal

pub returns-then-column-eq32 : goal.returns-then-column-eq32
returns-then-column-eq32 c =
    record { value = rw (eq-eqb c.args.column 32 c.if-column-eq32.true); upper_bound = omega arith }

pub returns-else-column-eq32 : goal.returns-else-column-eq32
returns-else-column-eq32 c =
    record { value = rw (ne_eqb c.args.column 32 c.if-column-eq32.false); upper_bound = omega arith }
