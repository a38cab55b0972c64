-- What the writes of a step ask for follows from accepted bytes and a well-formed transaction: puts whose conditions hold may be written over their lines, and
-- what a number has prepared may be rolled.
use Rattle.std.specs.Prelude.{◌≡◌, ◌≤◌, ◌&&◌}
use Rattle.std.proofs.Common.{◌∙◌}
use Rattle.lists.specs.Basics.{refl, sym, subst, ℕ, Bool, true, false, List, length, take, drop, arith, all, and_fst, and_snd, choose_by, tests}
use Rattle.lists.specs.All.{all-and, all_weaken}
use Rattle.model.specs.Types.{Record, Entry, Transaction}
use Rattle.model.specs.Records.{records, records_accepted, good_alone, key_in_range, has_line, line_of}
use Rattle.model.specs.Coordinator.{coordinator_of, names_issued}
use Rattle.model.specs.Transactions.{is_put}
use Rattle.model.specs.Images.{change_of, is_prepared, prepared_by}
use Rattle.model.specs.WellFormed.{entry_formed}
use Rattle.model.specs.Steps.{holds, group_at}
use Rattle.model.specs.ByteCalls.{sheets_of}
use Rattle.sheet_laws.specs.Letters.{units_in, units-said}
use Rattle.sheet_laws.specs.Decisions.{readable_length}
use Rattle.call_laws.specs.Ranges.{GoodParts, fine, fine-parts, parts-fine, absent_good}
use Rattle.call_laws.specs.Images.{MayPut, committed-fine, prepared-fine, forward_fine, back_fine}
use Rattle.sheet_laws.specs.KeyOrder.{has_line_lem, unlisted}
use Rattle.call_laws.specs.Lines.{line_passes}
use Rattle.call_laws.specs.Sheets.{GoodSheets, good_parts}
use Rattle.call_laws.specs.Transactions.{Body, key_formed}
use Rattle.call_laws.specs.Steps.{holds_parts, group-formed, may_put_over}
use Rattle.call_laws.specs.Lifting.{LinesFit, lines_good}
use Rattle.group_writes.specs.declared.changes.Effect.{Effect}
use Rattle.group_writes.specs.declared.changes.Effect.TheVariants.{Commit, Prepare, Forward, Back}
use Rattle.group_writes.specs.Changes.{changed, fits}
use Rattle.held_lines.specs.declared.Located.{Located}
use Rattle.held_lines.specs.Located.{Indexed, Grouped}
use Rattle.group_writes.specs.Turns.{MayChange}

-- accepted bytes, and a transaction whose body is well formed and whose lines and groups are these
pub record Ready (rs cs : List ℕ) (t : Transaction) (l : Located) : Type 0 where
  pub fit : LinesFit rs cs
  pub body : Body (sheets_of rs cs) t
  pub indexed : Indexed (records rs) t l.indices t.count
  pub grouped : Grouped (coordinator_of cs).units t l

module _ (rs cs : List ℕ) (t : Transaction) (l : Located) (ready : Ready rs cs t l) where
  pub accepted : records_accepted rs ≡ true
  accepted = ready.fit.0

  -- the letters of the head say the units
  pub units : units_in (take 9 (drop 5 cs)) ≡ (coordinator_of cs).units
  units = units-said cs ready.fit.1.0

  pub has_letters : 14 ≤ length cs
  has_letters = omega (arith, readable_length cs ready.fit.1.0)

  abbrev issued : ℕ
  issued = (sheets_of rs cs).coordinator.issued

  good : GoodSheets (sheets_of rs cs)
  good = good_parts (sheets_of rs cs) (lines_good rs cs ready.fit)

  line_good_lem : (e : Entry) → has_line e.key (records rs) ≡ true → GoodParts issued (line_of e.key (records rs))
  line_good_lem e h =
      fine-parts issued (line_of e.key (records rs))
      (line_passes (fine issued) e.key (records rs) good.fine_lines (sym (has_line_lem e.key (records rs)) ∙ h))

  fine_good : (r : Record) → GoodParts issued r → good_alone r ≡ true
  fine_good r g = and_fst (good_alone r) (names_issued issued r) (parts-fine issued r g)

  may_change : (c : Effect) → all (fits c t.number (records rs)) (group_at t (sheets_of rs cs)) ≡ true → MayChange c rs cs t l
  may_change c f =
      record {
        accepted = accepted;
        few = ready.body.few;
        distinct = ready.body.distinct;
        fit = f;
        indexed = ready.indexed;
        grouped = ready.grouped;
      }

  -- Puts.

  -- an entry of the group whose condition holds
  abbrev put_over : Entry → Bool
  put_over e = holds (sheets_of rs cs) e && (entry_formed issued e && is_put e)

  put_over_lem : all (holds (sheets_of rs cs)) (group_at t (sheets_of rs cs)) ≡ true → all put_over (group_at t (sheets_of rs cs)) ≡ true
  put_over_lem h = all-and (holds (sheets_of rs cs)) (λ (e : Entry). entry_formed issued e && is_put e) (group_at t (sheets_of rs cs)) h (group-formed (sheets_of rs cs) good t ready.body)

  has_its_line : (e : Entry) → holds (sheets_of rs cs) e ≡ true → has_line e.key (records rs) ≡ true
  has_its_line e h = (holds_parts (sheets_of rs cs) e h).0

  -- the puts of a group whose conditions hold, where a put over its line keeps the rules
  may_put : (c : Effect) → ((e : Entry) (r : Record) → GoodParts issued r → MayPut issued t.number (change_of e) r → GoodParts issued (changed c t.number (change_of e) r)) → all (holds (sheets_of rs cs)) (group_at t (sheets_of rs cs)) ≡ true → MayChange c rs cs t l
  may_put c keeps h =
      may_change c
      (all_weaken put_over (fits c t.number (records rs))
      (λ e g. let held = and_fst (holds (sheets_of rs cs) e) (entry_formed issued e && is_put e) g in
      let r = line_of e.key (records rs) in
      fine_good (changed c t.number (change_of e) r)
      (keeps e r (line_good_lem e (has_its_line e held))
      (may_put_over (sheets_of rs cs) good t ready.body e held (and_snd (holds (sheets_of rs cs) e) (entry_formed issued e && is_put e) g))))
      (group_at t (sheets_of rs cs)) (put_over_lem h))

  pub may_commit : all (holds (sheets_of rs cs)) (group_at t (sheets_of rs cs)) ≡ true → MayChange Commit rs cs t l
  unfolding changed
  may_commit = may_put Commit (λ e r g m. committed-fine issued t.number (change_of e) r g m)

  pub may_prepare : (now : ℕ) → now ≤ 4294967295 → all (holds (sheets_of rs cs)) (group_at t (sheets_of rs cs)) ≡ true → MayChange (Prepare now) rs cs t l
  unfolding changed
  may_prepare now k = may_put (Prepare now) (λ e r g m. prepared-fine issued t.number (change_of e) r g m now k)

  -- Prepared lines rolled.

  -- the line of a key in range keeps the rules, with or without a line
  any_good : (e : Entry) → key_in_range e.key ≡ true → GoodParts issued (line_of e.key (records rs))
  any_good e h = go (has_line e.key (records rs)) refl
    where
      go : (b : Bool) → has_line e.key (records rs) ≡ b → GoodParts issued (line_of e.key (records rs))
      go true l = line_good_lem e l
      go false l = subst (GoodParts issued) (sym (unlisted e.key (records rs) (sym (has_line_lem e.key (records rs)) ∙ l))) (absent_good issued e.key h)

  -- the lines of the group, where a rolled line keeps the rules
  may_roll : (c : Effect) → ((e : Entry) (r : Record) → GoodParts issued r → GoodParts issued (changed c t.number (change_of e) r)) → MayChange c rs cs t l
  may_roll c keeps =
      may_change c
      (all_weaken (λ (e : Entry). entry_formed issued e && is_put e) (fits c t.number (records rs))
      (λ e h. let r = line_of e.key (records rs) in fine_good (changed c t.number (change_of e) r) (keeps e r (any_good e (key_formed issued e (and_fst (entry_formed issued e) (is_put e) h)))))
      (group_at t (sheets_of rs cs)) (group-formed (sheets_of rs cs) good t ready.body))

  pending : (r : Record) → prepared_by t.number r ≡ true → is_prepared r ≡ true
  unfolding prepared_by
  pending r h = search tests

  pub may_forward : MayChange Forward rs cs t l
  unfolding changed
  may_forward =
      may_roll Forward
      (λ e r g. choose_by (GoodParts issued) (prepared_by t.number r) (λ p. forward_fine issued r g (pending r p)) (λ p. g))

  pub may_back : MayChange Back rs cs t l
  unfolding changed
  may_back =
      may_roll Back
      (λ e r g. choose_by (GoodParts issued) (prepared_by t.number r) (λ p. back_fine issued r g (pending r p)) (λ p. g))
