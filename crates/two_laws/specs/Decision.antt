-- The conditions of refusal, decided by bytes. Where keys agree, byte for byte, they are the joined sheet's; where they do not, each sheet is
-- checked beside fixed text, and 13 follows 2.
use Rattle.std.specs.Prelude.{◌/◌, ◌≤◌, ◌<◌, ◌≡◌, ◌&&◌, ◌∷◌}
use Rattle.std.proofs.Common.{◌∙◌}
use Rattle.lists.specs.Basics.{ℕ, leb, refl, sym, ap, ap₂, Bool, true, false, not, cond, true≢false, and-false, List, [], map, length}
use Rattle.lists.specs.Basics.{length-map, arith, leb-true, leb-false, lt-leb, and_fst}
use Rattle.lists.specs.Pieces.{length-pieces}
use Rattle.lists.specs.Basics.{all}
use Rattle.model.specs.Types.{Record}
use Rattle.model.specs.Layouts.{record_bytes, record_layout}
use Rattle.model.specs.Lines.{lines_of, lines_set, line_set}
use Rattle.model.specs.Records.{records, records_good, records_accepted}
use Rattle.model.specs.Coordinator.{coordinator_of, coordinator_readable, names_issued}
use Rattle.model.specs.Refusals.{Condition, refuse, refusal_of}
use Rattle.model.specs.SheetCalls.{all_issued}
use Rattle.model.specs.TwoSheets.{plain_bytes, bookkeeping_bytes, joined_sheet, plain_part, bookkeeping_part, bookkeeping_record, plain_alone, bookkeeping_alone}
use Rattle.model.specs.TwoSheets.{plain_layout, bookkeeping_layout, plain_record, same_keys, lines_conditions, key_conditions, coordinator_fits, full_conditions}
use Rattle.two_laws.specs.Deciding.{whole, lines_agree, filled_plain, filled_bookkeeping, joined_conditions}
use Rattle.two_laws.specs.FilledSheets.{filled_plain_lem, filled_bookkeeping_lem, filled_bookkeeping-records}
use Rattle.two_laws.specs.JoinedSheets.{join_split, split_agrees, split_whole, issued-joined, joined-plain, joined-bookkeeping}
use Rattle.two_laws.specs.KeysAsBytes.{keys_as_bytes}

-- the conditions over tests: plain, bookkeeping, same keys, joined, coordinator
abbrev verdict : Bool → Bool → Bool → Bool → Bool → ℕ
verdict p b s j c =
    refusal_of (refuse 1 (not p) ∷ refuse 1 (not b) ∷ refuse 1 (s && not j) ∷ refuse 2 (not c) ∷ refuse 13 (not s) ∷ [])

-- where the keys are the same, if both are good alone, and what is joined is then good alone, the joined sheet's test is the whole test
joined-decides : (p b s j c d : Bool) → (p ≡ true → b ≡ true → s ≡ true) → (j ≡ true → (p ≡ true) × (b ≡ true)) → c ≡ d → verdict p b s j c ≡ refusal_of (refuse 1 (not j) ∷ refuse 2 (not d) ∷ [])
unfolding refusal_of
joined-decides true true true true c d k a e = ap (λ (x : Bool). cond (not x) 2 0) e
joined-decides true true true false c d k a e = refl
joined-decides true true false j c d k a e = absurd (true≢false (sym (k refl refl)))
joined-decides true false s true c d k a e = absurd (true≢false (sym (a refl).1))
joined-decides true false s false c d k a e = refl
joined-decides false b s true c d k a e = absurd (true≢false (sym (a refl).0))
joined-decides false b s false c d k a e = refl

-- where the keys differ, if both are good alone
alone_decides : (p b s j c d : Bool) → (p ≡ true → b ≡ true → s ≡ false) → (b ≡ true → c ≡ d) → verdict p b s j c ≡ refusal_of (refuse 1 (not p) ∷ refuse 1 (not b) ∷ refuse 2 (not d) ∷ refuse 13 true ∷ [])
unfolding refusal_of
alone_decides true true true j c d k e = absurd (true≢false (k refl refl))
alone_decides true true false j c d k e = ap (λ (x : Bool). cond (not x) 2 13) (e refl)
alone_decides true false s j c d k e = refl
alone_decides false b s j c d k e = refl

abbrev agree : List ℕ → List ℕ → Bool
agree ps bs = lines_agree (lines_of plain_bytes ps) (lines_of bookkeeping_bytes bs)

-- keys agree: the refusals are those of the joined sheet, and 13 is none of them
pub agreeing : (ps bs cs : List ℕ) → whole plain_bytes ps ≡ true → whole bookkeeping_bytes bs ≡ true → agree ps bs ≡ true → refusal_of (full_conditions ps bs cs) ≡ refusal_of (joined_conditions (joined_sheet ps bs) cs)
unfolding full_conditions lines_conditions coordinator_fits joined_conditions all_issued
agreeing ps bs cs wp wb h =
    joined-decides (plain_alone ps) (bookkeeping_alone bs) (same_keys ps bs) (records_accepted (joined_sheet ps bs))
    (coordinator_readable cs && all (names_issued (coordinator_of cs).issued) (map bookkeeping_record (lines_of bookkeeping_bytes bs)))
    (coordinator_readable cs && all (names_issued (coordinator_of cs).issued) (records (joined_sheet ps bs)))
    (λ p b. sym (keys_as_bytes ps bs p b) ∙ h)
    (λ j. (joined-plain ps bs wp wb h j, joined-bookkeeping ps bs wp wb h j))
    (ap (λ (x : Bool). coordinator_readable cs && x) (issued-joined ps bs wp wb h (coordinator_of cs).issued))

-- what is asked where keys do not agree
unfoldable pub alone_conditions : List ℕ → List ℕ → List ℕ → List Condition
alone_conditions ps bs cs =
    refuse 1 (not (whole plain_bytes ps && records_accepted (filled_plain ps)))
    ∷ refuse 1 (not (whole bookkeeping_bytes bs && records_accepted (filled_bookkeeping bs)))
    ∷ refuse 2 (not (coordinator_readable cs && all_issued (filled_bookkeeping bs) cs))
    ∷ refuse 13 true
    ∷ []

-- keys do not agree: each sheet beside fixed text, then the coordinator sheet, then 13
pub differing : (ps bs cs : List ℕ) → agree ps bs ≡ false → refusal_of (full_conditions ps bs cs) ≡ refusal_of (alone_conditions ps bs cs)
unfolding full_conditions lines_conditions coordinator_fits alone_conditions all_issued
differing ps bs cs h =
    alone_decides (plain_alone ps) (bookkeeping_alone bs) (same_keys ps bs) (records_accepted (joined_sheet ps bs))
    (coordinator_readable cs && all (names_issued (coordinator_of cs).issued) (map bookkeeping_record (lines_of bookkeeping_bytes bs)))
    (coordinator_readable cs && all (names_issued (coordinator_of cs).issued) (records (filled_bookkeeping bs)))
    (λ p b. sym (keys_as_bytes ps bs p b) ∙ h)
    (λ b.
    ap (λ (rs : List Record). coordinator_readable cs && all (names_issued (coordinator_of cs).issued) rs)
    (sym (filled_bookkeeping-records bs (and_fst (whole bookkeeping_bytes bs) (records_accepted (filled_bookkeeping bs)) (sym (filled_bookkeeping_lem bs) ∙ b)))))
    ∙ ap₂ (λ (x y : Bool). refusal_of (refuse 1 (not x) ∷ refuse 1 (not y) ∷ refuse 2 (not (coordinator_readable cs && all (names_issued (coordinator_of cs).issued) (records (filled_bookkeeping bs)))) ∷ refuse 13 true ∷ []))
    (filled_plain_lem ps) (filled_bookkeeping_lem bs)

-- the parts of an accepted sheet, beside a coordinator sheet that fits it, are not refused as two sheets
pub split_passes : (s cs : List ℕ) → whole record_bytes s ≡ true → refusal_of (full_conditions (plain_part s) (bookkeeping_part s) cs) ≡ refusal_of (joined_conditions s cs)
split_passes s cs h =
    let w = split_whole s h in
    agreeing (plain_part s) (bookkeeping_part s) cs w.0 w.1 (split_agrees s h)
    ∙ ap (λ (t : List ℕ). refusal_of (joined_conditions t cs)) (join_split s h)

-- an accepted sheet is whole lines
pub accepted_whole : (s : List ℕ) → records_accepted s ≡ true → whole record_bytes s ≡ true
unfolding records_accepted lines_set
accepted_whole s h =
    and_fst (whole record_bytes s) (all (line_set record_layout) (lines_of record_bytes s))
    (and_fst (whole record_bytes s && all (line_set record_layout) (lines_of record_bytes s)) (records_good (records s)) h)

-- what a call leaves, split: both sheets good alone, of the same keys, and they join to it
pub split_accepted : (s : List ℕ) → records_accepted s ≡ true → (joined_sheet (plain_part s) (bookkeeping_part s) ≡ s) × ((plain_alone (plain_part s) ≡ true) × ((bookkeeping_alone (bookkeeping_part s) ≡ true) × (same_keys (plain_part s) (bookkeeping_part s) ≡ true)))
split_accepted s h =
    let w = accepted_whole s h in
    let v = split_whole s w in
    let e = join_split s w in
    let a = split_agrees s w in
    let j : records_accepted (joined_sheet (plain_part s) (bookkeeping_part s)) ≡ true = ap records_accepted e ∙ h in
    let p = joined-plain (plain_part s) (bookkeeping_part s) v.0 v.1 a j in
    let b = joined-bookkeeping (plain_part s) (bookkeeping_part s) v.0 v.1 a j in
    (e, (p, (b, sym (keys_as_bytes (plain_part s) (bookkeeping_part s) p b) ∙ a)))

-- The keys, before a coordinator sheet is looked at.

abbrev keys_verdict : Bool → Bool → Bool → Bool → ℕ
keys_verdict p b s j = refusal_of (refuse 1 (not p) ∷ refuse 1 (not b) ∷ refuse 1 (s && not j) ∷ refuse 13 (not s) ∷ [])

keys_join : (p b s j : Bool) → (p ≡ true → b ≡ true → s ≡ true) → (j ≡ true → (p ≡ true) × (b ≡ true)) → keys_verdict p b s j ≡ cond j 0 1
unfolding refusal_of
keys_join true true true true k a = refl
keys_join true true true false k a = refl
keys_join true true false j k a = absurd (true≢false (sym (k refl refl)))
keys_join true false s true k a = absurd (true≢false (sym (a refl).1))
keys_join true false s false k a = refl
keys_join false b s true k a = absurd (true≢false (sym (a refl).0))
keys_join false b s false k a = refl

keys_apart : (p b s j : Bool) → (p ≡ true → b ≡ true → s ≡ false) → keys_verdict p b s j ≡ refusal_of (refuse 1 (not p) ∷ refuse 1 (not b) ∷ refuse 13 true ∷ [])
unfolding refusal_of
keys_apart true true true j k = absurd (true≢false (k refl refl))
keys_apart true true false j k = refl
keys_apart true false s j k = refl
keys_apart false b s j k = refl

-- keys that agree are refused as the joined sheet is
pub lines-joined : (ps bs : List ℕ) → whole plain_bytes ps ≡ true → whole bookkeeping_bytes bs ≡ true → agree ps bs ≡ true → refusal_of (key_conditions ps bs) ≡ cond (records_accepted (joined_sheet ps bs)) 0 1
unfolding key_conditions lines_conditions
lines-joined ps bs wp wb h =
    keys_join (plain_alone ps) (bookkeeping_alone bs) (same_keys ps bs) (records_accepted (joined_sheet ps bs))
    (λ p b. sym (keys_as_bytes ps bs p b) ∙ h)
    (λ j. (joined-plain ps bs wp wb h j, joined-bookkeeping ps bs wp wb h j))

-- and where lines aren't whole, or keys don't agree, either sheet beside fixed text, then 13
pub lines-apart : (ps bs : List ℕ) → (whole plain_bytes ps && whole bookkeeping_bytes bs && agree ps bs) ≡ false
    → refusal_of (key_conditions ps bs) ≡ refusal_of (refuse 1 (not (plain_alone ps)) ∷ refuse 1 (not (bookkeeping_alone bs)) ∷ refuse 13 true ∷ [])
unfolding key_conditions lines_conditions
lines-apart ps bs h =
    keys_apart (plain_alone ps) (bookkeeping_alone bs) (same_keys ps bs) (records_accepted (joined_sheet ps bs))
    (λ p b. let wp : whole plain_bytes ps ≡ true = and_fst _ (records_accepted (filled_plain ps)) (sym (filled_plain_lem ps) ∙ p) in
    let wb : whole bookkeeping_bytes bs ≡ true = and_fst _ (records_accepted (filled_bookkeeping bs)) (sym (filled_bookkeeping_lem bs) ∙ b) in
    sym (keys_as_bytes ps bs p b) ∙ (ap₂ (λ (x y : Bool). x && y && agree ps bs) (sym wp) (sym wb) ∙ h))

-- The coordinator sheet comes between 1 and 13.

two_from_keys : (p b s j c : Bool) → (keys_verdict p b s j ≡ 1 → verdict p b s j c ≡ 1) × ((keys_verdict p b s j ≡ 1 → ⊥) → verdict p b s j c ≡ cond c (keys_verdict p b s j) 2)
unfolding refusal_of
two_from_keys true true true true true = (λ e. absurd (omega (arith, e)), λ z. refl)
two_from_keys true true true true false = (λ e. absurd (omega (arith, e)), λ z. refl)
two_from_keys true true true false c = (λ e. refl, λ z. absurd (z refl))
two_from_keys true true false j true = (λ e. absurd (omega (arith, e)), λ z. refl)
two_from_keys true true false j false = (λ e. absurd (omega (arith, e)), λ z. refl)
two_from_keys true false s j c = (λ e. refl, λ z. absurd (z refl))
two_from_keys false b s j c = (λ e. refl, λ z. absurd (z refl))

pub keys_bad : (ps bs cs : List ℕ) → refusal_of (key_conditions ps bs) ≡ 1 → refusal_of (full_conditions ps bs cs) ≡ 1
unfolding key_conditions lines_conditions full_conditions
keys_bad ps bs cs = (two_from_keys (plain_alone ps) (bookkeeping_alone bs) (same_keys ps bs) (records_accepted (joined_sheet ps bs)) (coordinator_fits bs cs)).0

pub keys_past : (ps bs cs : List ℕ) → (refusal_of (key_conditions ps bs) ≡ 1 → ⊥) → refusal_of (full_conditions ps bs cs) ≡ cond (coordinator_fits bs cs) (refusal_of (key_conditions ps bs)) 2
unfolding key_conditions lines_conditions full_conditions
keys_past ps bs cs = (two_from_keys (plain_alone ps) (bookkeeping_alone bs) (same_keys ps bs) (records_accepted (joined_sheet ps bs)) (coordinator_fits bs cs)).1

-- More than 500 lines are refused.

many_bad : (said : List ℕ → Record) (w : ℕ) (s : List ℕ) → 500 < length s / w → records_good (map said (lines_of w s)) ≡ false
unfolding records_good lines_of
many_bad said w s l =
    let n : length (map said (lines_of w s)) ≡ length s / w = length-map (lines_of w s) said ∙ length-pieces w (length s / w) s in
    rw (lt-leb (length (map said (lines_of w s))) 500 (omega (arith, n)))

pub many_plain : (ps : List ℕ) → 500 < length ps / plain_bytes → plain_alone ps ≡ false
unfolding plain_alone
many_plain ps l = ap (λ (x : Bool). lines_set plain_layout plain_bytes ps && x) (many_bad plain_record plain_bytes ps l) ∙ and-false (lines_set plain_layout plain_bytes ps)

pub many_bookkeeping : (bs : List ℕ) → 500 < length bs / bookkeeping_bytes → bookkeeping_alone bs ≡ false
unfolding bookkeeping_alone
many_bookkeeping bs l = ap (λ (x : Bool). lines_set bookkeeping_layout bookkeeping_bytes bs && x) (many_bad bookkeeping_record bookkeeping_bytes bs l) ∙ and-false (lines_set bookkeeping_layout bookkeeping_bytes bs)

-- and sheets that 1 lets pass have at most 500

keys_alone : (p b s j : Bool) → (keys_verdict p b s j ≡ 1 → ⊥) → b ≡ true
unfolding refusal_of
keys_alone true true s j z = refl
keys_alone true false s j z = absurd (z refl)
keys_alone false b s j z = absurd (z refl)

pub few_lines : (ps bs : List ℕ) → (refusal_of (key_conditions ps bs) ≡ 1 → ⊥) → length bs / bookkeeping_bytes ≤ 500
unfolding key_conditions lines_conditions
few_lines ps bs z = go (leb (length bs / bookkeeping_bytes) 500) refl
  where
    good : bookkeeping_alone bs ≡ true
    good = keys_alone (plain_alone ps) (bookkeeping_alone bs) (same_keys ps bs) (records_accepted (joined_sheet ps bs)) z

    go : (x : Bool) → leb (length bs / bookkeeping_bytes) 500 ≡ x → length bs / bookkeeping_bytes ≤ 500
    go true e = leb-true (length bs / bookkeeping_bytes) 500 e
    go false e = absurd (true≢false (sym good ∙ many_bookkeeping bs (leb-false (length bs / bookkeeping_bytes) 500 e)))

-- and where nothing is refused the joined sheet is accepted
keys_free : (p b s j : Bool) → keys_verdict p b s j ≡ 0 → j ≡ true
unfolding refusal_of
keys_free true true true true z = refl
keys_free true true true false z = absurd (omega (arith, z))
keys_free true true false j z = absurd (omega (arith, z))
keys_free true false s j z = absurd (omega (arith, z))
keys_free false b s j z = absurd (omega (arith, z))

pub joined_accepted : (ps bs : List ℕ) → 0 ≡ refusal_of (key_conditions ps bs) → records_accepted (joined_sheet ps bs) ≡ true
unfolding key_conditions lines_conditions
joined_accepted ps bs z = keys_free (plain_alone ps) (bookkeeping_alone bs) (same_keys ps bs) (records_accepted (joined_sheet ps bs)) (sym z)
