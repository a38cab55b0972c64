-- The companion's transaction and sheets reach the greatest count possible for so many puts, and no close of as many puts reports more.
use Rattle.std.specs.Prelude.{◌≡◌, ◌+◌, ◌-◌, ◌*◌, ◌^◌, ◌≤◌, ◌<◌, ◌++◌}
use Rattle.std.proofs.Common.{◌∙◌}
use Rattle.lists.specs.Basics.{refl, sym, ap, subst, ℕ, zero, suc, true, append-nil, length, length-append, arith}
use Rattle.model.specs.Types.{Transaction}
use Rattle.model.specs.Layouts.{record_bytes}
use Rattle.model.specs.Records.{records_text}
use Rattle.model.specs.Spares.{spares_text, sheet_for}
use Rattle.model.specs.Coordinator.{coordinator_text}
use Rattle.model.specs.Refusals.{refusal_of}
use Rattle.model.specs.Transactions.{done_phase, committed_verdict, puts, moved}
use Rattle.model.specs.Writes.{sheets_good}
use Rattle.model.specs.Results.{Answer, reported}
use Rattle.model.specs.ByteHistories.{Bytes, saying, Passing}
use Rattle.model.specs.Closing.{Run, closing, starting, most_steps, close_conditions}
use Rattle.model.specs.Greatest.{greatest_lines, greatest_coordinator, greatest_sheets, greatest_bytes, greatest_transaction}
use Rattle.call_laws.specs.Lifting.{Capitals, passing_good, encoded, encoded-says}
use Rattle.closing_laws.specs.Steps.{starts_sound}
use Rattle.closing_laws.specs.Report.{report_within, greatest_possible}
use Rattle.lists.specs.Bytes as Lists
use Rattle.lists.specs.Each as Each
use Rattle.model.specs.Layouts as Layouts
use Rattle.model.specs.Lines as Lines
use Rattle.model.specs.Search as Search
use Rattle.model.specs.Records as Records
use Rattle.model.specs.Coordinator as Coordinator
use Rattle.model.specs.Refusals as Refusals
use Rattle.model.specs.Transactions as Transactions
use Rattle.model.specs.Groups as Groups
use Rattle.model.specs.Images as Images
use Rattle.model.specs.Writes as Writes
use Rattle.model.specs.WellFormed as WellFormed
use Rattle.model.specs.Steps as Steps
use Rattle.model.specs.Closing as Closing
use Rattle.model.specs.Greatest as Greatest

-- the close of the companion's transaction on its sheets, with a limit that closes any order
abbrev pub greatest_close : ℕ → ℕ → Run
greatest_close n now = closing most_steps now (starting (greatest_transaction n) 17 (greatest_sheets n))

-- done and committed
abbrev pub greatest_closed : ℕ → Transaction
greatest_closed n = moved done_phase 0 committed_verdict (greatest_transaction n)

-- By computation, count by count.

-- what a close reports and returns; what the computations unfold is named here, once for all counts
unfoldable ended : Run → Answer
unfolding Each.all Each.any Each.filter Each.count Each.less Layouts.record_layout Layouts.key_layout Layouts.image_layout Layouts.columns_layout Lines.in_range Lines.row_good Search.first_from Records.state_number Records.before_number Records.key_numbers Records.image_numbers Records.record_numbers Records.is_zero Records.absence Records.no_before Records.absent_rule Records.good_alone Records.key_less Records.in_order Records.rising Records.records_good Records.key_in_range Records.same_key Records.found Records.is_missing Records.line_of Coordinator.decision Coordinator.with_decision Coordinator.coordinator_good Coordinator.names_issued Refusals.refusal_of Transactions.held Transactions.puts Transactions.to_validate Groups.unit_fields Groups.letter_for Groups.scope Groups.add_scope Groups.scopes Groups.group_count Groups.group_place Groups.group Images.prepared_by Images.unchanged Images.prepared Images.rolled_forward Writes.size_good Writes.sheets_good Writes.entry_for Writes.is_of Writes.line_after Writes.shifted Writes.lines_after Writes.decisions_after Writes.apply WellFormed.image_in_range WellFormed.columns_in_range WellFormed.put_fits WellFormed.entry_formed WellFormed.distinct_keys WellFormed.place_formed WellFormed.verdict_formed WellFormed.formed WellFormed.well_formed Steps.holds Steps.one_phase_allowed Steps.open_step Steps.next_group Steps.prepare_step Steps.decide_step Steps.finish_step Steps.step Closing.changes Closing.turn Closing.closing Closing.close_barred Closing.close_conditions Greatest.greatest_lines Greatest.greatest_coordinator Greatest.greatest_transaction
ended x = reported x.writes x.transaction

record Computed (n count : ℕ) : Type 0 where
  pub puts_are : length (puts (greatest_transaction n)) ≡ n
  pub good : sheets_good (greatest_sheets n) ≡ true
  pub closes : refusal_of (close_conditions (greatest_transaction n) (greatest_sheets n)) ≡ 0
  pub ends : (now : ℕ) → ended (greatest_close n now) ≡ reported count (greatest_closed n)

one : Computed 1 3
unfolding ended
one = record { puts_are = refl; good = refl; closes = refl; ends = λ now. refl }

two : Computed 2 5
unfolding ended
two = record { puts_are = refl; good = refl; closes = refl; ends = λ now. refl }

three : Computed 3 7
unfolding ended
three = record { puts_are = refl; good = refl; closes = refl; ends = λ now. refl }

four : Computed 4 9
unfolding ended
four = record { puts_are = refl; good = refl; closes = refl; ends = λ now. refl }

five : Computed 5 11
unfolding ended
five = record { puts_are = refl; good = refl; closes = refl; ends = λ now. refl }

six : Computed 6 13
unfolding ended
six = record { puts_are = refl; good = refl; closes = refl; ends = λ now. refl }

seven : Computed 7 15
unfolding ended
seven = record { puts_are = refl; good = refl; closes = refl; ends = λ now. refl }

eight : Computed 8 17
unfolding ended
eight = record { puts_are = refl; good = refl; closes = refl; ends = λ now. refl }

computed : (n : ℕ) → 1 ≤ n → n ≤ 8 → Computed n (2 * n + 1)
computed zero l m = absurd (omega arith)
computed (suc zero) l m = one
computed (suc (suc zero)) l m = two
computed (suc (suc (suc zero))) l m = three
computed (suc (suc (suc (suc zero)))) l m = four
computed (suc (suc (suc (suc (suc zero))))) l m = five
computed (suc (suc (suc (suc (suc (suc zero)))))) l m = six
computed (suc (suc (suc (suc (suc (suc (suc zero))))))) l m = seven
computed (suc (suc (suc (suc (suc (suc (suc (suc zero)))))))) l m = eight
computed (suc (suc (suc (suc (suc (suc (suc (suc (suc n))))))))) l m = absurd (omega arith)

-- "a transaction and sheets that reach the greatest count possible for it": n puts; bytes that pass and say these sheets; and a close that isn't refused, that at every
-- reading of the clock reports 2 n + 1 and is done, committed
pub record Reached (n : ℕ) : Type 0 where
  pub puts_are : length (puts (greatest_transaction n)) ≡ n
  pub passes : Passing (greatest_bytes n)
  pub says : saying (greatest_bytes n) ≡ greatest_sheets n
  pub closes : refusal_of (close_conditions (greatest_transaction n) (greatest_sheets n)) ≡ 0
  pub report : (now : ℕ) → reported (greatest_close n now).writes (greatest_close n now).transaction ≡ reported (2 * n + 1) (greatest_closed n)

capitals : (n : ℕ) → Capitals (greatest_sheets n)
unfolding Each.all Coordinator.all_capitals Greatest.greatest_coordinator
capitals n = refl

length_greatest : (n : ℕ) → length (greatest_lines n) ≡ n
unfolding greatest_lines
length_greatest zero = refl
length_greatest (suc n) = length-append (greatest_lines n) _ ∙ omega (arith, length_greatest n)

-- as many records as lines, so that the sheet has no spare
no_spare_lem : (n : ℕ) → encoded (greatest_sheets n) ≡ greatest_bytes n
unfolding sheet_for Each.joined
no_spare_lem n =
    let z : n - length (greatest_lines n) ≡ 0 = omega (arith, length_greatest n) in
    let e : sheet_for (greatest_lines n) n ≡ records_text (greatest_lines n) =
    ap (λ (m : ℕ). records_text (greatest_lines n) ++ spares_text record_bytes m) z ∙ append-nil (records_text (greatest_lines n)) in
    λ i. record { records = e i; coordinator = coordinator_text greatest_coordinator }

-- "for each count of 1 to 8 puts"
pub greatest_reached : (n : ℕ) → 1 ≤ n → n ≤ 8 → Reached n
unfolding ended
greatest_reached n l m =
    let c : Computed n (2 * n + 1) = computed n l m in
    let e = encoded-says (greatest_sheets n) c.good (capitals n) in
    record {
      puts_are = c.puts_are;
      passes = subst Passing (no_spare_lem n) e.1;
      says = ap saying (sym (no_spare_lem n)) ∙ e.0;
      closes = c.closes;
      report = c.ends;
    }

-- no close makes more writes for its puts, whatever accepted sheets it is made on, its limit and the reading of the clock
pub nothing_greater : (b : Bytes) → Passing b → (t : Transaction) → refusal_of (close_conditions t (saying b)) ≡ 0 → (limit now : ℕ) → now < 2 ^ 32
    → (closing most_steps now (starting t limit (saying b))).writes ≤ 2 * length (puts t) + 1
nothing_greater b h t z limit now fits =
    let w = report_within most_steps now fits (starting t limit (saying b)) (starts_sound t limit (saying b) (passing_good b h) z) in
    let g = greatest_possible t (saying b) in
    omega (arith, w, g)
