-- The loop's invariant: the records before i are good, so that those from i on decide as all do. A number that is not issued ends it.
use Rattle.lists.specs.Basics.{and-false, arith, le-leb, lt-leb, all}
use Rattle.lists.specs.Walks.{left-first, left_last}
use Rattle.sheet_laws.specs.ByIndex.{length-records}
use Rattle.model.specs.Layouts.{record_layout, offset}
use Rattle.model.specs.SheetCalls.{all_issued}
use Rattle.sheet_laws.specs.Decisions.{readable_length}
use Rattle.coordinator_check.specs.Issued.{named-turn}
use Rattle.coordinator_check.proofs.all_issued.Goals as goal

pub number-issued-requires : goal.number-issued-requires
number-issued-requires c =
    let l = readable_length c.args.coordinator.now c.requires.coordinator_value in
    omega arith

pub loop-i-init : goal.loop-i-init
unfolding all_issued
loop-i-init c = left-first _ _

pub returns-then-txid-issued : goal.returns-then-txid-issued
unfolding offset record_layout
returns-then-txid-issued c =
    let l = c.loop-i in
    rw (lt-leb c.number-txid.result c.number-issued.result c.if-txid-issued.true) at
    (named-turn c.args.records.now c.args.coordinator.now c.requires.records_value c.requires.coordinator_value (λ i. (c.type_inv.records i).fits) (λ i. (c.type_inv.coordinator i).fits)
    l.i c.loop-i-test.true l.invariant c.number-issued.ensures.value c.number-txid.ensures.value c.number-before_txid.ensures.value)

pub returns-then-before_txid-issued : goal.returns-then-before_txid-issued
unfolding offset record_layout
returns-then-before_txid-issued c =
    let l = c.loop-i in
    rw (lt-leb c.number-before_txid.result c.number-issued.result c.if-before_txid-issued.true, and-false) at
    (named-turn c.args.records.now c.args.coordinator.now c.requires.records_value c.requires.coordinator_value (λ i. (c.type_inv.records i).fits) (λ i. (c.type_inv.coordinator i).fits)
    l.i c.loop-i-test.true l.invariant c.number-issued.ensures.value c.number-txid.ensures.value c.number-before_txid.ensures.value)

pub loop-i-preserved : goal.loop-i-preserved
unfolding offset record_layout
loop-i-preserved c =
    let l = c.loop-i in
    record {
      reached = omega (arith, length-records c.args.records.now);
      rest =
          rw (le-leb c.number-txid.result c.number-issued.result c.if-txid-issued.false, le-leb c.number-before_txid.result c.number-issued.result c.if-before_txid-issued.false) at
          (named-turn c.args.records.now c.args.coordinator.now c.requires.records_value c.requires.coordinator_value (λ i. (c.type_inv.records i).fits) (λ i. (c.type_inv.coordinator i).fits)
          l.i c.loop-i-test.true l.invariant c.number-issued.ensures.value c.number-txid.ensures.value c.number-before_txid.ensures.value);
    }

pub returns : goal.returns
unfolding all
returns c = left_last _ _ _ _ (omega (arith, length-records c.args.records.now)) c.loop-i.invariant
