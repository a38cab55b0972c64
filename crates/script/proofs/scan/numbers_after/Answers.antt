-- The words to come, after the numbers so far, give what all words do.
use Rattle.std.specs.Prelude.{◌≡◌, ◌+◌, ◌-◌, Option}
use Rattle.std.proofs.Common.{◌∙◌}
use Rattle.lists.specs.Basics.{refl, sym, ap, drop, arith}
use Rattle.script.specs.declared.scan.Numbers.{Numbers}
use Rattle.script.specs.Lines.{and_then, with_words, words_after, next_word, no_word}
use Rattle.script.proofs.scan.numbers_after.Goals as goal

pub loop-at-init : goal.loop-at-init
loop-at-init c = (c.requires, refl)

pub returns-in_err-numbers : goal.returns-in_err-numbers
returns-in_err-numbers c = let s = c.args.line.now in
    let l = c.loop-at in
    let end = c.end_of-at.result in
    let f : end - (l.at + 1) + (l.at + 1) ≡ end = omega arith in
    c.from_residual.ensures
    ∙ (ap (λ (o : Option Numbers). and_then o (λ n. with_words n (words_after (drop end s)))) c.in_err-numbers.ensures
    ∙ (next_word s l.numbers l.at end (end - (l.at + 1)) c.loop-at-test.true c.end_of-at.ensures.column f ∙ l.invariant.1))

pub loop-at-preserved : goal.loop-at-preserved
loop-at-preserved c = let s = c.args.line.now in
    let l = c.loop-at in
    let end = c.end_of-at.result in
    let f : end - (l.at + 1) + (l.at + 1) ≡ end = omega arith in (
      c.end_of-at.ensures.within.1,
      ap (λ (o : Option Numbers). and_then o (λ n. with_words n (words_after (drop end s)))) (sym c.in_ok-numbers.was ∙ c.with_word.ensures)
          ∙ (next_word s l.numbers l.at end (end - (l.at + 1)) c.loop-at-test.true c.end_of-at.ensures.column f ∙ l.invariant.1),
    )

pub returns : goal.returns
returns c = sym (no_word c.args.line.now c.loop-at.numbers c.loop-at.at c.loop-at-test.false) ∙ c.loop-at.invariant.1
