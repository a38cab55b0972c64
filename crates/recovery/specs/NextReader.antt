-- "if COMMITTED was written, the next reader finishes it": whoever next visits a line PREPARED by a COMMITTED owner, or reads it as a key that it doesn't hold, in one
-- call or by the second of two, leaves it rolled forward, at any reading of the clock. The owner is decided, so that neither expiry nor refusal 12 is asked.
use Rattle.std.specs.Prelude.{◌≡◌, ◌^◌, ◌<◌, ◌&&◌, ◌∷◌}
use Rattle.std.proofs.Common.{◌∙◌}
use Rattle.lists.specs.Basics.{refl, sym, ap, ap₂, ℕ, Bool, true, false, cond, true≢false, [], and_snd, choose_by}
use Rattle.model.specs.Types.{Key, Image, Record, Decision, Committed, Columns, Transaction, Recovery, Stays, Forward, Back, Again, Busy}
use Rattle.model.specs.Records.{line_of, has_line}
use Rattle.model.specs.Coordinator.{coordinator_of, is_undecided}
use Rattle.model.specs.Images.{is_prepared, by_decision, rolled_forward, recovery}
use Rattle.model.specs.Writes.{Sheets, Write, forward, line_after, apply}
use Rattle.model.specs.Visits.{owner_decision, owner_expired, meeting, recovery_write}
use Rattle.model.specs.Results.{read, second, visit, Result, write_of, visited, refusal_in, answer_of, Answer}
use Rattle.model.specs.Conditions.{is_new, takes_two, conditions}
use Rattle.model.specs.Groups.{is_lower}
use Rattle.model.specs.Steps.{units_of}
use Rattle.model.specs.Calls.{seen_second, whole_read, outcome, result_of}
use Rattle.model.specs.Histories.{answer, written, after}
use Rattle.model.specs.ByteHistories.{Bytes, saying, Passing, answer_on, after_on}
use Rattle.model.specs.RecoveryPass.{line_undecided}
use Rattle.call_laws.specs.Choices.{unless_of, by_whole}
use Rattle.sheet_laws.specs.KeyOrder.{lists_key, has_line_lem}
use Rattle.call_laws.specs.Lines.{forward_linewise}
use Rattle.call_laws.specs.Sheets.{GoodSheets, good_parts}
use Rattle.call_laws.specs.Lifting.{capitals_lower, passing_readable, passing_good, same_answer, bytes_stay_passing}
use Rattle.recovery.specs.View.{line_after_lem}
use Rattle.recovery.specs.Pass.{visit_made, rolled_line}

module _ (s : Sheets) (good : GoodSheets s) (k : Key) (now : ℕ) (listed : lists_key k s.lines ≡ true) (pending : is_prepared (line_of k s.lines) ≡ true) (owner : owner_decision (line_of k s.lines) s.coordinator ≡ Committed) where
  -- the line is not undecided
  decided : line_undecided s (line_of k s.lines) ≡ true → owner_expired now s.lines (line_of k s.lines) ≡ true
  unfolding line_undecided is_undecided
  decided u = absurd (true≢false (sym u ∙ ap₂ (λ (b : Bool) (d : Decision). b && is_undecided d) pending owner))

  meets_forward : meeting now s (line_of k s.lines) ≡ Forward
  unfolding meeting recovery
  meets_forward =
      ap (λ (b : Bool). cond b (by_decision (owner_decision (line_of k s.lines) s.coordinator) (cond (owner_expired now s.lines (line_of k s.lines)) Again Busy) Forward Back) Stays) pending
      ∙ ap (λ (d : Decision). by_decision d (cond (owner_expired now s.lines (line_of k s.lines)) Again Busy) Forward Back) owner

  finished : (w : Write) → w ≡ recovery_write (meeting now s (line_of k s.lines)) (line_of k s.lines) → line_of k (apply w s).lines ≡ rolled_forward (line_of k s.lines)
  unfolding recovery_write line_after
  finished w e =
      ap (λ (x : Write). line_of k (apply x s).lines) (e ∙ ap (λ (v : Recovery). recovery_write v (line_of k s.lines)) meets_forward)
      ∙ (line_after_lem s (forward (line_of k s.lines).image.txid ((line_of k s.lines).key ∷ [])) (forward_linewise s.lines (line_of k s.lines).image.txid ((line_of k s.lines).key ∷ [])) k ∙ rolled_line s good k now listed decided rolled_forward pending)

  pub visit_finishes : (answer (visit k now) s ≡ visited Forward) × (line_of k (after (visit k now) s).lines ≡ rolled_forward (line_of k s.lines))
  unfolding answer after written
  visit_finishes =
      let m = visit_made s good k now listed decided in
      (ap answer_of m ∙ ap visited meets_forward, finished (written (visit k now) s) (ap write_of m))

  -- a read that is accepted, of a key that is not held
  module _ (t : Transaction) (new : is_new k t ≡ true) where
    abbrev Finishes : Result Answer → Type 0
    Finishes x = refusal_in (answer_of x) ≡ 0 → line_of k (apply (write_of x) s).lines ≡ rolled_forward (line_of k s.lines)

    whole_finishes : (sees : Record → Image) → Finishes (whole_read sees t k now s)
    whole_finishes sees = by_whole sees t k now s Finishes (λ n a z. finished _ refl) (λ n a z. finished _ refl) (λ n. absurd (true≢false (sym new ∙ n)))

    -- in one call
    pub read_finishes : is_lower (units_of s) k ≡ false → refusal_in (answer (read t k now) s) ≡ 0 → line_of k (after (read t k now) s).lines ≡ rolled_forward (line_of k s.lines)
    unfolding answer after written result_of outcome
    read_finishes l =
        unless_of Finishes (conditions (read t k now) s) (λ z a. absurd (z a))
        (λ z. choose_by Finishes (takes_two (units_of s) k t)
        (λ e. absurd (true≢false (sym (and_snd (is_new k t) (is_lower (units_of s) k) e) ∙ l)))
        (λ e. whole_finishes (λ (r : Record). r.image)))

    -- or in two, of which the second visits
    pub second_finishes : (c : Columns) → refusal_in (answer (second t k now c) s) ≡ 0 → line_of k (after (second t k now c) s).lines ≡ rolled_forward (line_of k s.lines)
    unfolding answer after written result_of outcome
    second_finishes c =
        unless_of Finishes (conditions (second t k now c) s) (λ z a. absurd (z a)) (λ z. whole_finishes (seen_second (is_lower (units_of s) k) c))

-- Over bytes.
module _ (b : Bytes) (passing : Passing b) (k : Key) (now : ℕ) (fits : now < 2 ^ 32) (has : has_line k (saying b).lines ≡ true) (pending : is_prepared (line_of k (saying b).lines) ≡ true) (owner : owner_decision (line_of k (saying b).lines) (coordinator_of b.coordinator) ≡ Committed) where
  good : GoodSheets (saying b)
  good = good_parts (saying b) (passing_good b passing)

  listed : lists_key k (saying b).lines ≡ true
  listed = sym (has_line_lem k (saying b).lines) ∙ has

  pub next_visit_finishes : (answer_on (visit k now) b ≡ visited Forward) × (line_of k (saying (after_on (visit k now) b)).lines ≡ rolled_forward (line_of k (saying b).lines))
  next_visit_finishes =
      let f = visit_finishes (saying b) good k now listed pending owner in
      (same_answer (visit k now) b passing ∙ f.0, ap (λ (s : Sheets). line_of k s.lines) (bytes_stay_passing (visit k now) b fits passing).0 ∙ f.1)

  pub next_read_finishes : (t : Transaction) → is_new k t ≡ true → refusal_in (answer_on (read t k now) b) ≡ 0 → line_of k (saying (after_on (read t k now) b)).lines ≡ rolled_forward (line_of k (saying b).lines)
  next_read_finishes t new accepted =
      ap (λ (s : Sheets). line_of k s.lines) (bytes_stay_passing (read t k now) b fits passing).0
      ∙ read_finishes (saying b) good k now listed pending owner t new (capitals_lower (saying b) (passing_readable b passing).1 k) (ap refusal_in (sym (same_answer (read t k now) b passing)) ∙ accepted)
