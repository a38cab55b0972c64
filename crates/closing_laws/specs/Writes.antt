-- What counts as a write is a change of bytes, and the other way round. A step that puts raises the version of its first entry's line, which is there since its
-- condition holds; one that decides changes the own line; one that rolls takes a line out of PREPARED. And what doesn't count leaves both sheets.
use Rattle.std.specs.Prelude.{◌≡◌, ◌+◌, ◌^◌, ◌<◌, ◌∷◌}
use Rattle.std.proofs.Common.{◌∙◌}
use Rattle.lists.specs.Basics.{refl, sym, ap, ap₂, ℕ, Bool, true, false, not, cond, true≢false, List, [], map}
use Rattle.lists.specs.Basics.{drop, get_or, Option, some, arith, all, any, and_fst, choose_by, tests, or_else, or_fst, or_snd}
use Rattle.model.specs.Types.{Key, Record, Decision, Undecided, Committed, Aborted, Entry, Transaction}
use Rattle.model.specs.Records.{same_key, has_line, line_of}
use Rattle.model.specs.Coordinator.{decision}
use Rattle.model.specs.Transactions.{is_empty, puts, to_validate, no_entry}
use Rattle.model.specs.Images.{is_prepared, prepared_by, prepared, committed, rolled_forward, rolled_back, by_decision, change_of}
use Rattle.model.specs.Writes.{Sheets, sheets_good, Write, nothing, issue, decide, commit, prepare, forward, back, add_line, remove_line, entry_for, by_entry, is_of, line_after, shifted, lines_after}
use Rattle.model.specs.Writes.{decisions_after, apply}
use Rattle.model.specs.WellFormed.{well_formed}
use Rattle.model.specs.Steps.{Step, holds, units_of, group_at, keys_of, one_phase_allowed, open_without_puts, one_phase, open_step, prepare_step, validate_step, decide_step}
use Rattle.model.specs.Steps.{withdraw_step, finish_step, undo_step, step}
use Rattle.model.specs.ByteHistories.{saying}
use Rattle.model.specs.Closing.{changes}
use Rattle.call_laws.specs.Choices.{by_phase_lem, by_decision_of}
use Rattle.sheet_laws.specs.KeyOrder.{same_key_refl, has_line_lem}
use Rattle.call_laws.specs.Images.{forward_plain, back_plain}
use Rattle.call_laws.specs.Lines.{shifts, line_key, line_mapped, lines_mapped, lines_unmoved, line_of_key}
use Rattle.call_laws.specs.Sheets.{GoodSheets, good_parts, parts_good, write_closed}
use Rattle.call_laws.specs.Transactions.{Body, well_formed-parts}
use Rattle.call_laws.specs.Steps.{holds_parts, Closed, step_closed}
use Rattle.call_laws.specs.Lifting.{encoded, encoded_readable}
use Rattle.closing_laws.specs.Steps.{own_line}

-- What doesn't count.

none_rolled : (p : Record → Bool) (f : Record → Record) (rs : List Record) → any p rs ≡ false → map (λ (r : Record). cond (p r) (f r) r) rs ≡ rs
unfolding any
none_rolled p f [] h = refl
none_rolled p f (r ∷ rs) h =
    ap₂ ◌∷◌ (ap (λ (b : Bool). cond b (f r) r) (or_fst (p r) (any p rs) h)) (none_rolled p f rs (or_snd (p r) (any p rs) h))

lines_only : (s : Sheets) {rs : List Record} → rs ≡ s.lines → record { lines = rs; size = s.size; coordinator = s.coordinator } ≡ s
lines_only s e = λ i. record { lines = e i; size = s.size; coordinator = s.coordinator }

-- a write that changes nothing leaves the sheets
pub no_change : (w : Write) (s : Sheets) → changes w s ≡ false → apply w s ≡ s
unfolding changes apply lines_after shifted line_after decisions_after entry_for
no_change nothing s h = lines_only s (lines_unmoved nothing refl (λ r. refl) s.lines)
no_change issue s h = absurd (true≢false h)
no_change (decide n d) s h = absurd (true≢false h)
no_change (commit n []) s h = lines_only s (lines_unmoved (commit n []) refl (λ r. refl) s.lines)
no_change (commit n (e ∷ es)) s h = absurd (true≢false h)
no_change (prepare n now []) s h = lines_only s (lines_unmoved (prepare n now []) refl (λ r. refl) s.lines)
no_change (prepare n now (e ∷ es)) s h = absurd (true≢false h)
no_change (forward n ks) s h = lines_only s (none_rolled (is_of n ks) rolled_forward s.lines h)
no_change (back n ks) s h = lines_only s (none_rolled (is_of n ks) rolled_back s.lines h)
no_change (add_line k) s h = absurd (true≢false h)
no_change (remove_line k) s h = absurd (true≢false h)

-- What counts.

-- some line of those chosen is another after it was changed
some_rolled : (p : Record → Bool) (f : Record → Record) → ((r : Record) → p r ≡ true → f r ≡ r → ⊥) → (rs : List Record) → any p rs ≡ true
    → map (λ (r : Record). cond (p r) (f r) r) rs ≡ rs → ⊥
unfolding any
some_rolled p f d [] h e = true≢false (sym h)
some_rolled p f d (r ∷ rs) h e =
    or_else (p r) (any p rs) h
    (λ q. d r q (ap (λ (b : Bool). cond b (f r) r) (sym q) ∙ ap (λ (xs : List Record). get_or xs 0 r) e))
    (λ q h'. some_rolled p f d rs h' (ap (drop 1) e))

module _ (s : Sheets) (n : ℕ) (ks : List Key) where
  of_prepared : (r : Record) → is_of n ks r ≡ true → is_prepared r ≡ true
  unfolding is_of prepared_by
  of_prepared r h = search (tests, h)

  forward_changes : any (is_of n ks) s.lines ≡ true → apply (forward n ks) s ≡ s → ⊥
  unfolding apply lines_after shifted line_after
  forward_changes h e =
      some_rolled (is_of n ks) rolled_forward
      (λ r q z. true≢false (sym (of_prepared r q) ∙ (ap is_prepared (sym z) ∙ forward_plain r))) s.lines h (ap (λ (x : Sheets). x.lines) e)

  back_changes : any (is_of n ks) s.lines ≡ true → apply (back n ks) s ≡ s → ⊥
  unfolding apply lines_after shifted line_after
  back_changes h e =
      some_rolled (is_of n ks) rolled_back
      (λ r q z. true≢false (sym (of_prepared r q) ∙ (ap is_prepared (sym z) ∙ back_plain r))) s.lines h (ap (λ (x : Sheets). x.lines) e)

-- a write that raises the version of a line that is there
version-changes : (s : Sheets) (w : Write) (k : Key) → shifts w ≡ false → has_line k s.lines ≡ true
    → ((r : Record) → r.key ≡ k → (line_after w r).image.version ≡ r.image.version + 1) → apply w s ≡ s → ⊥
unfolding apply
version-changes s w k calm h up e =
    let r = line_of k s.lines in
    let m : line_of k (map (line_after w) s.lines) ≡ line_after w r = line_mapped (line_after w) (line_key w) k s.lines (sym (has_line_lem k s.lines) ∙ h) in
    let a : line_after w r ≡ r = sym (ap (line_of k) (lines_mapped w s.lines calm) ∙ m) ∙ ap (λ (x : Sheets). line_of k x.lines) e in
    let b : (line_after w r).image.version ≡ r.image.version = ap (λ (x : Record). x.image.version) a in
    omega (arith, b, up r (line_of_key k s.lines))

-- a group whose conditions hold, written so that the first entry's line has a higher version
group-changes : (s : Sheets) (w : List Entry → Write) → ((es : List Entry) → shifts (w es) ≡ false)
    → ((e : Entry) (es : List Entry) (r : Record) → r.key ≡ e.key → (line_after (w (e ∷ es)) r).image.version ≡ r.image.version + 1) → (es : List Entry)
    → all (holds s) es ≡ true → not (is_empty es) ≡ true → apply (w es) s ≡ s → ⊥
unfolding all
group-changes s w calm up [] c h e = true≢false (sym h)
group-changes s w calm up (x ∷ es) c h e =
    let a : holds s x ≡ true = and_fst (holds s x) (all (holds s) es) c in
    version-changes s (w (x ∷ es)) x.key (calm (x ∷ es)) (holds_parts s x a).0 (up x es) e

own_entry : (e : Entry) (es : List Entry) (r : Record) → r.key ≡ e.key → entry_for r.key (e ∷ es) ≡ some e
unfolding entry_for
own_entry e es r q = ap (λ (b : Bool). cond b (some e) (entry_for r.key es)) (ap (same_key e.key) q ∙ same_key_refl e.key)

commit_raises : (n : ℕ) (e : Entry) (es : List Entry) (r : Record) → r.key ≡ e.key → (line_after (commit n (e ∷ es)) r).image.version ≡ r.image.version + 1
unfolding line_after committed
commit_raises n e es r q = ap (λ (o : Option Entry). (by_entry o r (λ (x : Entry). committed n (change_of x) r)).image.version) (own_entry e es r q)

prepare_raises : (n now : ℕ) (e : Entry) (es : List Entry) (r : Record) → r.key ≡ e.key
    → (line_after (prepare n now (e ∷ es)) r).image.version ≡ r.image.version + 1
unfolding line_after prepared
prepare_raises n now e es r q = ap (λ (o : Option Entry). (by_entry o r (λ (x : Entry). prepared n now (change_of x) r)).image.version) (own_entry e es r q)

module _ (s : Sheets) (good : GoodSheets s) (t : Transaction) (b : Body s t) (now : ℕ) where
  abbrev Differs : Step → Type 0
  Differs x = changes x.write s ≡ true → apply x.write s ≡ s → ⊥

  decide_changes : (d : Decision) → decision t.number s.coordinator ≡ Undecided → (Undecided ≡ d → ⊥) → apply (decide t.number d) s ≡ s → ⊥
  unfolding apply decisions_after
  decide_changes d u n e = n (sym u ∙ (sym (ap (λ (x : Sheets). decision t.number x.coordinator) e) ∙ own_line s good t b d))

  undecided-not : (d : Decision) → by_decision d true false false ≡ false → Undecided ≡ d → ⊥
  undecided-not d h e = true≢false (ap (λ (x : Decision). by_decision x true false false) e ∙ h)

  -- a step that counts as a write leaves other sheets
  pub step-changes : Differs (step t now s)
  unfolding step open_step open_without_puts one_phase prepare_step validate_step decide_step withdraw_step finish_step undo_step changes
  step-changes =
      by_phase_lem Differs t.phase
      (choose_by Differs (is_empty (puts t))
      (λ x. choose_by Differs (is_empty (to_validate (units_of s) t)) (λ y. none) (λ y. none))
      (λ x. choose_by Differs (one_phase_allowed t s)
      (λ y. choose_by Differs (all (holds s) (group_at t s))
      (λ c. group-changes s (commit t.number) (λ es. refl) (commit_raises t.number) (group_at t s) c)
      (λ c. none))
      (λ y. none)))
      (choose_by Differs (all (holds s) (group_at t s))
      (λ c. group-changes s (prepare t.number now) (λ es. refl) (prepare_raises t.number now) (group_at t s) c)
      (λ c. none))
      (choose_by Differs (holds s (get_or (to_validate (units_of s) t) t.place no_entry)) (λ c. none) (λ c. none))
      (by_decision_of Differs own (λ u h. decide_changes Committed u (undecided-not Committed refl)) (λ d. none) (λ d. none))
      (by_decision_of Differs own (λ u h. decide_changes Aborted u (undecided-not Aborted refl)) (λ d. none) (λ d. none))
      (forward_changes s t.number (keys_of (group_at t s)))
      (back_changes s t.number (keys_of (group_at t s)))
      none
      none
    where
      own : Decision
      own = decision t.number s.coordinator

      none : false ≡ true → apply nothing s ≡ s → ⊥
      none h e = true≢false (sym h)

-- On bytes: a step counts as a write exactly if some byte of a sheet is another after it.

pub written-bytes : (s : Sheets) → sheets_good s ≡ true → (t : Transaction) → well_formed s t ≡ true → (now : ℕ) → now < 2 ^ 32
    → changes (step t now s).write s ≡ true → encoded (apply (step t now s).write s) ≡ encoded s → ⊥
written-bytes s g t f now fits h e =
    let good : GoodSheets s = good_parts s g in
    let parts = well_formed-parts s t f in
    let w = (step t now s).write in
    let y : Closed s (step t now s) = step_closed s good t parts.0 parts.1 now (omega (arith, fits)) in
    let kept : sheets_good (apply w s) ≡ true = parts_good (apply w s) (write_closed s good y.fits) in
    step-changes s good t parts.0 now h (sym (encoded_readable (apply w s) kept).0 ∙ (ap saying e ∙ (encoded_readable s g).0))

pub unwritten_bytes : (s : Sheets) (t : Transaction) (now : ℕ) → changes (step t now s).write s ≡ false → encoded (apply (step t now s).write s) ≡ encoded s
unwritten_bytes s t now h = ap encoded (no_change (step t now s).write s h)
