-- The letter lies one before the storage's number.
use Rattle.std.specs.Prelude.{◌≡◌, ◌-◌}
use Rattle.std.proofs.Common.{◌∙◌}
use Rattle.lists.specs.Basics.{suc, arith}
use Rattle.transactions.specs.Chains.{item_got}
use Rattle.transactions.specs.Units.{letter_got, letter-none}
use Rattle.transactions.proofs.letter_of.Goals as goal

pub returns-then-storage-lt1 : goal.returns-then-storage-lt1
returns-then-storage-lt1 c = letter-none c.args.letters.now c.args.storage c.if-storage-lt1.true

pub returns : goal.returns
returns c =
    let i = c.args.storage - 1 in
    let n : c.args.storage ≡ suc i = omega (arith, c.if-storage-lt1.false) in
    rw (n, c.copied.ensures ∙ item_got c.args.letters.now i c.get.result c.get.ensures.lookup) (letter_got c.args.letters.now i)
