-- The ten bytes that are compared are the whole word.
use Rattle.std.proofs.Common.{◌∙◌}
use Rattle.lists.specs.Basics.{ap, take, drop, take_all, arith, eq_list}
use Rattle.model.specs.Layouts.{word_at, word_bytes}
use Rattle.sheet_laws.specs.Fields.{length-word_at}
use Rattle.codec.proofs.fields.is_word_at.Goals as goal

pub returns : goal.returns
returns c =
    let a = c.args in
    let whole = take_all word_bytes (word_at a.kind a.n) (omega (arith, length-word_at a.kind a.n)) in
    c.ten_equal.ensures ∙ ap (eq_list (take word_bytes (drop a.at a.s.now))) (ap (take word_bytes) c.word-t.ensures ∙ whole)
