-- Each row with the next, and then the last by itself.
use Rattle.std.specs.Prelude.{◌/◌, ◌-◌}
use Rattle.std.proofs.Common.{◌∙◌, rules, tests}
use Rattle.std.proofs.lemmas.Iterator.{YieldsList-from_zip}
use Rattle.std.proofs.lemmas.Iterator.Adapters.{YieldsList-from_skip, serves_from_places}
use Rattle.std.proofs.lemmas.Iterator.Consumers.{YieldsList-at}
use Rattle.std.proofs.lemmas.Iterator.Search.{all_from_yields_List}
use Rattle.lists.specs.Basics.{sym, ap, ℕ, length, pieces, arith}
use Rattle.lists.specs.Chunks.{chunks_given}
use Rattle.model.specs.Layouts.{record_fields}
use Rattle.model.specs.Records.{rows}
use Rattle.sheet_laws.specs.Numbers.{length-rows}
use Rattle.numbers.specs.RowsPass.{row_ok, rows_pass, pair_good, pairs_out, pairs_in, pair_whole, last_whole}
use Rattle.numbers.proofs.rows.rows_pass.Goals as goal

pub all-requires-clause-callable : goal.all-requires-clause-callable
unfolding rows
all-requires-clause-callable c =
    serves_from_places
    (YieldsList-from_zip (YieldsList-at c.zip.ensures.first (chunks_given record_fields (omega arith) c.args.numbers.now (search rules) (search rules))) (YieldsList-at c.zip.ensures.second (YieldsList-from_skip 1 (YieldsList-at c.skip-next.ensures.source (chunks_given record_fields (omega arith) c.args.numbers.now (search rules) (search rules))) c.skip-next.ensures.count)))
    (λ x q h. search rules) (λ x k l e. let n = pair_whole c.args.numbers.now k (x.0.now, x.1.now) l e in search rules)

pub all-requires-then-all-clause-callable : goal.all-requires-then-all-clause-callable
unfolding rows
all-requires-then-all-clause-callable c =
    serves_from_places
    (YieldsList-from_skip _ (YieldsList-at c.skip.ensures.source (chunks_given record_fields (omega arith) c.args.numbers.now (search rules) (search rules))) c.skip.ensures.count)
    (λ x q h. search rules) (λ x k l e. let n = last_whole c.args.numbers.now _ k x.now l e in search rules)

pub returns-then-all : goal.returns-then-all
unfolding rows_pass rows
returns-then-all c =
    let v = c.args.numbers.now in
    let pairs = all_from_yields_List pair_good c.all.new.self _ c.all.result c.all.ensures.ran (YieldsList-from_zip (YieldsList-at c.zip.ensures.first (chunks_given record_fields (omega arith) v (search rules) (search rules))) (YieldsList-at c.zip.ensures.second (YieldsList-from_skip 1 (YieldsList-at c.skip-next.ensures.source (chunks_given record_fields (omega arith) v (search rules) (search rules))) c.skip-next.ensures.count))) (λ x b f h. search (rules, tests)) in
    let last = all_from_yields_List row_ok _ _ c.all-then-all.result c.all-then-all.ensures.ran (YieldsList-from_skip _ (YieldsList-at c.skip.ensures.source (chunks_given record_fields (omega arith) v (search rules) (search rules))) c.skip.ensures.count) (λ x b f h. search (rules, tests)) in
    last ∙ pairs_in (pieces record_fields (length v / record_fields) v) _ (c.saturating_sub-last.ensures ∙ ap (λ (n : ℕ). n - 1) (sym (length-rows v))) (sym pairs ∙ c.if-all.true)

pub returns-else-all : goal.returns-else-all
unfolding rows_pass rows
returns-else-all c =
    let v = c.args.numbers.now in
    let pairs = all_from_yields_List pair_good c.all.new.self _ c.all.result c.all.ensures.ran (YieldsList-from_zip (YieldsList-at c.zip.ensures.first (chunks_given record_fields (omega arith) v (search rules) (search rules))) (YieldsList-at c.zip.ensures.second (YieldsList-from_skip 1 (YieldsList-at c.skip-next.ensures.source (chunks_given record_fields (omega arith) v (search rules) (search rules))) c.skip-next.ensures.count))) (λ x b f h. search (rules, tests)) in
    c.if-all.false ∙ pairs_out (pieces record_fields (length v / record_fields) v) (sym pairs ∙ c.if-all.false)
