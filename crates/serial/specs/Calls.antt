-- Every call keeps what is known of the order and of the answers so far: a refused call, a visit, adding and removing take no state, begin returns a new one, read, its second
-- call and put return one in open, abort one past decide, and advance one of the step table. A new entry is what the visit of its line left, which is the
-- model's line, but for columns that a second call brings.
use Rattle.std.specs.Prelude.{◌≡◌, ◌+◌, ◌<◌, ◌&&◌, ◌∷◌}
use Rattle.std.proofs.Common.{◌∙◌}
use Rattle.lists.specs.Basics.{refl, sym, ap, ap₂, subst, ℕ, eqb, leb, Bool, true, false, not, cond, true≢false, List, length, get_or}
use Rattle.lists.specs.Basics.{length-set, Option, some, none-ne-some, some-injective, arith, eqb-true, leb-false, not-false, choose_by}
use Rattle.model.specs.Types.{Key, Image, Record, Committed, Aborted, Found, Some, Columns, Entry, Transaction, Recovery, Reading}
use Rattle.types.specs.declared.Reading.TheVariants.{Again}
use Rattle.model.specs.Refusals.{refusal_of}
use Rattle.model.specs.Records.{line_of, same_key, by_found}
use Rattle.model.specs.Groups.{is_lower}
use Rattle.model.specs.Images.{is_absent}
use Rattle.model.specs.Transactions.{withdraw_phase, open_phase, is_serializable, held, reading, held_at, no_entry, moved, with_entry, with_put}
use Rattle.model.specs.Writes.{Sheets, Write, nothing, apply}
use Rattle.model.specs.Visits.{owner_decision, owner_expired, meeting, is_again, is_busy, recovered, recovery_write}
use Rattle.model.specs.Results.{Call, begin, read, second, put, advance, abort, visit, add, remove, Result, refused, made, write_of, Answer, turned_away, returned, answered, returns, answer_of}
use Rattle.model.specs.Conditions.{is_new, takes_two, held_entry, busy, cannot_advance, conditions}
use Rattle.model.specs.Steps.{units_of, step}
use Rattle.model.specs.Calls.{new_transaction, seen_second, holding, whole_read, after_put, outcome, result_of}
use Rattle.model.specs.Histories.{Event, given, taken, taken_by, Available}
use Rattle.model.specs.SequentialModel.{Model, model_begin, model_put, model_commit, model_call, model_step}
use Rattle.model.specs.SerialOrder.{begun_checked}
use Rattle.sheet_laws.specs.Search.{first_by}
use Rattle.call_laws.specs.Choices.{unless_by, test_of, accepted, by_meeting, entry_read, by_whole}
use Rattle.call_laws.specs.Lines.{line_of_key}
use Rattle.call_laws.specs.Adding.{may_add, may_remove}
use Rattle.call_laws.specs.Sheets.{added_linewise, removed_linewise}
use Rattle.recovery.specs.Settling.{settled_plain, settled_by}
use Rattle.recovery.specs.Memory.{Away, away_nothing, away_issue, away_add, away_remove}
use Rattle.recovery.specs.Advance.{never_both, step_moves}
use Rattle.recovery.specs.Calls.{visit_away}
use Rattle.serial.specs.Runs.{Placing, NoNewer}
use Rattle.call_laws.specs.Images.{flag_says}
use Rattle.serial.specs.InDoubt.{Facts}
use Rattle.serial.specs.Invariant.{placed_as, unplaced, Aged, Ordered}
use Rattle.serial.specs.Handover.{Handover}
use Rattle.serial.specs.Untaken.{New, Untaken, ordered_untaken}
use Rattle.serial.specs.Quiet.{open_kept, ended}
use Rattle.serial.specs.Advance.{step_kept}
use Rattle.serial.specs.Holding.{HoldsOn, holds_same, holds_on_more, aged_more, now_held, new_entry, holds_on_put, aged_put, step-holds}
use Rattle.serial.specs.Answers.{ToldRead, Told, EachTold, told_untaken, told_handover, read_told}

-- what is known after events
pub record SoFar (first : Key → Record) (s : Sheets) (es : List Event) (m : Model) (ps : List Placing) : Type 0 where
  pub ordered : Ordered first s es m ps
  pub told : EachTold es es

-- What a second call sees of a line has its version, and is the line's where columns are not brought.

second-version : (lower : Bool) (c : Columns) (r : Record) → (seen_second lower c r).version ≡ r.image.version
unfolding seen_second
second-version lower c r = choose_by (λ (i : Image). i.version ≡ r.image.version) (lower && not (is_absent r)) (λ e. refl) (λ e. refl)

second-whole : (lower : Bool) (c : Columns) (r : Record) → lower ≡ false → seen_second lower c r ≡ r.image
unfolding seen_second
second-whole lower c r e = ap (λ (b : Bool). seen_second b c r) e

-- What a visit of a line leaves, where it rolls or stays, is the model's line.
visited-line : {s : Sheets} {es : List Event} {m : Model} → Facts s es m → (k : Key) (now : ℕ)
    → is_again (meeting now s (line_of k s.lines)) ≡ false → busy k now s ≡ false
    → m.line k ≡ recovered (meeting now s (line_of k s.lines)) (line_of k s.lines)
unfolding meeting recovered
visited-line {s} {es} {m} f k now =
    by_meeting (λ (v : Recovery). is_again v ≡ false → is_busy v ≡ false → m.line k ≡ recovered v r) r (owner_decision r s.coordinator) (owner_expired now s.lines r)
    (λ p x y. sym (f.view k) ∙ settled_plain s.coordinator r p)
    (λ p d x y. sym (f.view k) ∙ settled_by s.coordinator r Committed p d)
    (λ p d x y. sym (f.view k) ∙ settled_by s.coordinator r Aborted p d)
    (λ p d x y z. absurd (true≢false y))
    (λ p d x y z. absurd (true≢false z))
  where
    r : Record
    r = line_of k s.lines

module _ {first : Key → Record} {s : Sheets} {es : List Event} {m : Model} {ps : List Placing} (f : Facts s es m) (sofar : SoFar first s es m ps) where
  o : Ordered first s es m ps
  o = sofar.ordered

  abbrev event_of : Call → Result Answer → Event
  event_of c r = record { call = c; answer = answer_of r }

  -- A result keeps what is known, if it takes a state that may be handed on.
  abbrev pub Keeps : Call → Result Answer → Type 0
  Keeps c r =
      Facts (apply (write_of r) s) (event_of c r ∷ es) (model_step (event_of c r) m)
      → ((u : Transaction) → taken_by c (answer_of r) ≡ some u → Available u es)
      → SoFar first (apply (write_of r) s) (event_of c r ∷ es) (model_step (event_of c r) m) (placed_as (taken_by c (answer_of r)) (returns (answer_of r)) ps)

  untaken : {w : Write} {e : Event} {m' : Model} → Untaken s w es e m m' → Told (e ∷ es) e.call e.answer → SoFar first (apply w s) (e ∷ es) m' ps
  untaken u new = record { ordered = ordered_untaken u o; told = told_untaken u new sofar.told }

  taken_on : {w : Write} {e : Event} {m' : Model} {t t' : Transaction} (ps' : List Placing) → Handover s w es e m m' t t'
      → Ordered first (apply w s) (e ∷ es) m' ps' → HoldsOn t t' → Told (e ∷ es) e.call e.answer → SoFar first (apply w s) (e ∷ es) m' ps'
  taken_on ps' h after on new = record { ordered = after; told = told_handover h on new sofar.told }

  over : (w : Write) (e : Event) {m' : Model} (t t' : Transaction) → Facts (apply w s) (e ∷ es) m' → Available t es → taken e ≡ some t
      → returns e.answer ≡ some t' → t'.number ≡ t.number → ((j : ℕ) → Away s j w) → Handover s w es e m m' t t'
  over w e t t' f' a takes gives n away =
      record { before = f; after = f'; available = a; takes = takes; gives = gives; number = n; away = λ j d. away j }

  keeps_refused : (c : Call) (n : ℕ) → Keeps c (refused n)
  unfolding model_step returns
  keeps_refused c n f' av =
      untaken
      (record { before = f; away = λ j. away_nothing; takes = refl; gives = λ t q. absurd (none-ne-some t q); lines = refl; committed = refl })
      (told_refused c)
    where
      told_refused : (c : Call) → Told (event_of c (refused n) ∷ es) c (turned_away n)
      told_refused (begin b) = tt
      told_refused (read t k now) = tt
      told_refused (second t k now x) = tt
      told_refused (put t k x) = tt
      told_refused (advance t now) = tt
      told_refused (abort t) = tt
      told_refused (visit k now) = tt
      told_refused (add k) = tt
      told_refused (remove k) = tt

  visit_keeps : (k : Key) (now : ℕ) → Keeps (visit k now) (outcome (visit k now) s)
  unfolding outcome model_step returns given
  visit_keeps k now f' av =
      untaken
      (record { before = f; away = visit_away s now k; takes = refl; gives = λ t q. absurd (none-ne-some t q); lines = refl; committed = refl }) tt

  add_keeps : (k : Key) → refusal_of (conditions (add k) s) ≡ 0 → Keeps (add k) (outcome (add k) s)
  unfolding outcome model_step returns given
  add_keeps k z f' av =
      untaken
      (record { before = f; away = λ j. away_add k (added_linewise s f.good k (may_add k s z)); takes = refl; gives = λ t q. absurd (none-ne-some t q); lines = refl; committed = refl }) tt

  remove_keeps : (k : Key) → refusal_of (conditions (remove k) s) ≡ 0 → Keeps (remove k) (outcome (remove k) s)
  unfolding outcome model_step returns given
  remove_keeps k z f' av =
      untaken
      (record { before = f; away = λ j. away_remove k (removed_linewise s f.good k (may_remove k s z)); takes = refl; gives = λ t q. absurd (none-ne-some t q); lines = refl; committed = refl }) tt

  -- "every transaction is begun as checked"
  begin_keeps : (b : Bool) → b ≡ true → Keeps (begin b) (outcome (begin b) s)
  unfolding outcome model_step model_call model_begin returns given held
  begin_keeps b c f' av =
      untaken
      (record {
        before = f;
        away = λ j. away_issue;
        takes = refl;
        gives = λ t q. subst (New s) (some-injective (new_transaction (s.coordinator.issued + 1) b) t q) new;
        lines = refl;
        committed = refl;
      })
      tt
    where
      new : New s (new_transaction (s.coordinator.issued + 1) b)
      new = record { number = omega arith; in_open = refl; empty = refl; checked = ap (λ (x : Bool). eqb (cond x 1 0) 1) c; room = refl }

  advance_keeps : (t : Transaction) (now : ℕ) → refusal_of (conditions (advance t now) s) ≡ 0 → Keeps (advance t now) (outcome (advance t now) s)
  unfolding outcome conditions test_of model_step model_call returns given
  advance_keeps t now z f' av =
      let ok : cannot_advance t s ≡ false = accepted 4 (advance t now) s z in
      let mv = step_moves s m t f.good f.view (f.known t (av t refl)) now ok in
      let x = step t now s in
      let h : Handover s x.write es (event_of (advance t now) (made (returned x.transaction) x.write)) m _ t x.transaction =
      record { before = f; after = f'; available = av t refl; takes = refl; gives = refl; number = mv.number; away = mv.away } in
      taken_on _ h (step_kept f o t now (av t refl) ok h) (holds_same t x.transaction (step-holds t now s)) tt

  same_model : (t : Transaction) → cond (eqb t.verdict 0 && eqb t.verdict 1) (model_commit t.number m) m ≡ m
  same_model t = ap (λ (b : Bool). cond b (model_commit t.number m) m) (never_both t.verdict)

  abort_keeps : (t : Transaction) → Keeps (abort t) (outcome (abort t) s)
  unfolding outcome model_step model_call returns given held
  abort_keeps t f' av =
      let t' = moved withdraw_phase 0 t.verdict t in
      let e = event_of (abort t) (made (returned t') nothing) in
      let h = over nothing e t t' f' (av t refl) refl refl refl (λ j. away_nothing) in
      taken_on _ h
      (subst (Ordered first (apply nothing s) (e ∷ es) _) (sym (unplaced t t' ps withdraw_phase refl refl refl))
      (ended withdraw_phase 0 t.verdict h o (same_model t) (omega arith)))
      (holds_same t t' refl) tt

  -- A state in open that comes back in open.

  opens : {w : Write} {e : Event} {m' : Model} (t t' : Transaction) → Handover s w es e m m' t t' → Away s t.number w → t.phase ≡ 0 → t'.phase ≡ 0
      → m'.line ≡ m.line → m'.committed ≡ m.committed → t'.serializable ≡ t.serializable → length t'.entries ≡ length t.entries
      → Aged (units_of s) m.line t' → HoldsOn t t' → Told (e ∷ es) e.call e.answer
      → SoFar first (apply w s) (e ∷ es) m' (placed_as (some t) (some t') ps)
  opens {w} {e} {m'} t t' h away ph ph' lines committed flag room aged on new =
      let checked : is_serializable t' ≡ true = ap (λ (x : ℕ). eqb x 1) flag ∙ o.checked t h.available in
      subst (SoFar first (apply w s) (e ∷ es) m') (sym (unplaced t t' ps open_phase ph' refl refl))
      (taken_on ps h (open_kept h o away ph ph' lines committed checked (room ∙ o.room t h.available) aged) on new)

  -- as it was
  comes_back : {w : Write} {e : Event} {m' : Model} (t : Transaction) → Handover s w es e m m' t t → Away s t.number w → t.phase ≡ 0
      → m'.line ≡ m.line → m'.committed ≡ m.committed → Told (e ∷ es) e.call e.answer
      → SoFar first (apply w s) (e ∷ es) m' (placed_as (some t) (some t) ps)
  comes_back t h away ph lines committed new = opens t t h away ph ph lines committed refl refl (o.aged t h.available) (holds_same t t refl) new

  in_open : (t : Transaction) → not (eqb t.phase 0) ≡ false → t.phase ≡ 0
  in_open t c = eqb-true t.phase 0 (not-false (eqb t.phase 0) c)

  -- the entry of the key has what it had as first read
  put_keeps : (t : Transaction) (k : Key) (c : Columns) → refusal_of (conditions (put t k c) s) ≡ 0 → Keeps (put t k c) (outcome (put t k c) s)
  unfolding outcome conditions test_of model_step model_call model_put returns given after_put held_at
  put_keeps t k c z f' av =
      let ph : t.phase ≡ 0 = in_open t (accepted 4 (put t k c) s z) in
      first_by (λ (x : Entry). same_key x.key k) Kept (held t) no_entry
      (λ n g. comes_back t (over nothing (event t) t t g (av t refl) refl refl refl (λ j. away_nothing)) away_nothing ph refl refl tt)
      (λ i x g. let t' = at (Some i) in
      opens t t' (over nothing (event t') t t' g (av t refl) refl refl refl (λ j. away_nothing)) away_nothing ph ph refl refl refl
      (length-set t.entries i (with_put c (get_or t.entries i no_entry)))
      (aged_put c t i x.within (units_of s) m.line (o.aged t (av t refl))) (holds_on_put c t i x.within) tt)
      f'
    where
      at : Found → Transaction
      at i = by_found i t (λ (j : ℕ). with_entry t.count j (with_put c (get_or t.entries j no_entry)) t)

      event : Transaction → Event
      event t' = record { call = put t k c; answer = returned t' }

      Kept : Found → Type 0
      Kept i =
          Facts (apply nothing s) (event (at i) ∷ es) (model_put t.number k c m)
          → SoFar first (apply nothing s) (event (at i) ∷ es) (model_put t.number k c m) (placed_as (some t) (some (at i)) ps)

  -- A call that reads: it takes t in open, commits nothing and is told as a read.
  module _ (c : Call) (t : Transaction) (k : Key) (takes : given c ≡ some t) (still : (u : Transaction) → u.verdict ≡ t.verdict → model_call c (some u) m ≡ m)
      (told : (es' : List Event) (a : Answer) → ToldRead es' t k a → Told es' c a) (ph : t.phase ≡ 0) where
    reads : (v : Reading) (t' : Transaction) (w : Write) → ((j : ℕ) → Away s j w) → t'.number ≡ t.number → t'.verdict ≡ t.verdict → t'.phase ≡ 0
        → t'.serializable ≡ t.serializable → length t'.entries ≡ length t.entries
        → (Available t es → Aged (units_of s) m.line t') → (Available t es → HoldsOn t t')
        → (Handover s w es (event_of c (made (answered v t') w)) m (model_call c (some t') m) t t'
        → ToldRead (event_of c (made (answered v t') w) ∷ es) t k (answered v t'))
        → Keeps c (made (answered v t') w)
    unfolding model_step returns
    reads v t' w away n d ph' flag room aged on new f' av =
        let e = event_of c (made (answered v t') w) in
        let h = over w e t t' f' (av t takes) takes refl n away in
        subst (λ (x : Option Transaction). SoFar first (apply w s) (e ∷ es) (model_call c (some t') m) (placed_as x (some t') ps)) (sym takes)
        (opens t t' h (away t.number) ph ph' (ap (λ (x : Model). x.line) (still t' d)) (ap (λ (x : Model). x.committed) (still t' d)) flag room
        (aged (av t takes)) (on (av t takes)) (told (e ∷ es) (answered v t') (new h)))

    -- the transaction comes back as it was
    unmoved : (v : Reading) (w : Write) → ((j : ℕ) → Away s j w)
        → (Handover s w es (event_of c (made (answered v t) w)) m (model_call c (some t) m) t t → ToldRead (event_of c (made (answered v t) w) ∷ es) t k (answered v t))
        → Keeps c (made (answered v t) w)
    unmoved v w away new = reads v t w away refl refl ph refl refl (o.aged t) (λ a. holds_same t t refl) new

    -- the whole read: a new entry is what the visit left, but for columns that the call brings where columns are compared
    whole-keeps : (now : ℕ) (sees : Record → Image) → ((r : Record) → (sees r).version ≡ r.image.version)
        → ((r : Record) → is_lower (units_of s) k ≡ false → sees r ≡ r.image)
        → (is_new k t && leb 8 t.count) ≡ false → (is_new k t ≡ true → busy k now s ≡ false) → Keeps c (whole_read sees t k now s)
    whole-keeps now sees version whole room free =
        by_whole sees t k now s (Keeps c)
        (λ n x. unmoved Again w away (λ h d. absurd (true≢false (sym d))))
        (λ n x. reads (reading e) (holding e t) w away refl refl ph refl (length-set t.entries t.count e)
        (λ a. aged_more e t (few n a) (units_of s) m.line (no_newer x (free n)) (o.aged t a)) (λ a. holds_on_more e t (few n a))
        (λ h d. let full = few n h.available in read_told h k (now_held e t full k same) (reading e) (ap reading (sym (new_entry e t full k same n)))))
        (λ n. unmoved (reading (held_entry k t)) nothing (λ j. away_nothing) (λ h d. read_told h k n (reading (held_entry k t)) refl))
      where
        r : Record
        r = line_of k s.lines

        w : Write
        w = recovery_write (meeting now s r) r

        away : (j : ℕ) → Away s j w
        away = visit_away s now k

        e : Entry
        e = entry_read sees t k now s

        same : e.key ≡ k
        same = line_of_key k s.lines

        few : is_new k t ≡ true → Available t es → t.count < length t.entries
        few n a =
            let l : t.count < 8 = leb-false 8 t.count (ap (λ (b : Bool). b && leb 8 t.count) (sym n) ∙ room) in
            let z : length t.entries ≡ 8 = o.room t a in
            omega (arith, l, z)

        no_newer : is_again (meeting now s r) ≡ false → busy k now s ≡ false → NoNewer (is_lower (units_of s) e.key) m.line e
        no_newer x y =
            let line : m.line e.key ≡ recovered (meeting now s r) r = ap m.line same ∙ visited-line f k now x y in
            let v : e.seen.version ≡ (m.line e.key).image.version = version (recovered (meeting now s r) r) ∙ ap (λ (z : Record). z.image.version) (sym line) in (
              omega (arith, v),
              λ q. (
                flag_says (is_absent (recovered (meeting now s r) r)) ∙ ap is_absent (sym line),
                λ b. whole (recovered (meeting now s r) r) (ap (is_lower (units_of s)) (sym same) ∙ b) ∙ ap (λ (z : Record). z.image) (sym line),
              ),
            )

  same-verdict : (t u : Transaction) → u.verdict ≡ t.verdict → cond (eqb t.verdict 0 && eqb u.verdict 1) (model_commit t.number m) m ≡ m
  same-verdict t u e = ap (λ (x : ℕ). cond (eqb t.verdict 0 && eqb x 1) (model_commit t.number m) m) e ∙ same_model t

  read_keeps : (t : Transaction) (k : Key) (now : ℕ) → refusal_of (conditions (read t k now) s) ≡ 0 → Keeps (read t k now) (outcome (read t k now) s)
  unfolding outcome conditions test_of model_call given
  read_keeps t k now z =
      let call = read t k now in
      let lower = is_lower (units_of s) k in
      let ph : t.phase ≡ 0 = in_open t (accepted 4 call s z) in
      let c9 : (is_new k t && leb 8 t.count) ≡ false = accepted 9 call s z in
      let c12 : (is_new k t && not lower && busy k now s) ≡ false = accepted 12 call s z in
      choose_by (Keeps call) (takes_two (units_of s) k t)
      (λ e. unmoved call t k refl (same-verdict t) (λ x a h. h) ph _ nothing (λ j. away_nothing) (λ h d. absurd (true≢false (sym d))))
      (λ e. whole-keeps call t k refl (same-verdict t) (λ x a h. h) ph now (λ (r : Record). r.image) (λ r. refl) (λ r l. refl) c9
      (λ n. let l : lower ≡ false = ap (λ (b : Bool). b && lower) (sym n) ∙ e in
      ap₂ (λ (x y : Bool). x && not y && busy k now s) (sym n) (sym l) ∙ c12))

  second-keeps : (t : Transaction) (k : Key) (now : ℕ) (c : Columns) → refusal_of (conditions (second t k now c) s) ≡ 0 → Keeps (second t k now c) (outcome (second t k now c) s)
  unfolding outcome conditions test_of model_call given
  second-keeps t k now c z =
      let call = second t k now c in
      let lower = is_lower (units_of s) k in
      let ph : t.phase ≡ 0 = in_open t (accepted 4 call s z) in
      let c9 : (is_new k t && leb 8 t.count) ≡ false = accepted 9 call s z in
      let c12 : (is_new k t && busy k now s) ≡ false = accepted 12 call s z in
      whole-keeps call t k refl (same-verdict t) (λ x a h. h) ph now (seen_second lower c) (second-version lower c) (second-whole lower c) c9
      (λ n. ap (λ (b : Bool). b && busy k now s) (sym n) ∙ c12)

  -- Every call.

  accepted_keeps : (c : Call) → refusal_of (conditions c s) ≡ 0 → begun_checked (event_of c (outcome c s)) ≡ true → Keeps c (outcome c s)
  unfolding outcome
  accepted_keeps (begin b) z q = begin_keeps b q
  accepted_keeps (read t k now) z q = read_keeps t k now z
  accepted_keeps (second t k now c) z q = second-keeps t k now c z
  accepted_keeps (put t k c) z q = put_keeps t k c z
  accepted_keeps (advance t now) z q = advance_keeps t now z
  accepted_keeps (abort t) z q = abort_keeps t
  accepted_keeps (visit k now) z q = visit_keeps k now
  accepted_keeps (add k) z q = add_keeps k z
  accepted_keeps (remove k) z q = remove_keeps k z

  pub result-keeps : (c : Call) → begun_checked (event_of c (result_of c s)) ≡ true → Keeps c (result_of c s)
  unfolding result_of
  result-keeps c =
      unless_by (λ (r : Result Answer). begun_checked (event_of c r) ≡ true → Keeps c r) (conditions c s)
      (λ q. keeps_refused c (refusal_of (conditions c s))) (accepted_keeps c)
