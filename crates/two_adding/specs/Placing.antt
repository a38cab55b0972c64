-- Where a line goes on both sheets, or goes from: refused by what is asked of the sheets, or what is told of the joined one.
use Rattle.std.specs.Prelude.{◌≡◌, ◌++◌}
use Rattle.std.proofs.Common.{◌∙◌}
use Rattle.lists.specs.Basics.{refl, sym, ap, ap₂, ℕ, eqb, Bool, true, false, cond, List, all, ne_eqb}
use Rattle.model.specs.Types.{Key, Record, Rank, Ranked}
use Rattle.model.specs.Records.{records, records_accepted, ranked}
use Rattle.model.specs.Refusals.{Condition, refusal_of}
use Rattle.model.specs.SheetCalls.{told_rank}
use Rattle.model.specs.Results.{Call, add, remove}
use Rattle.model.specs.Conditions.{conditions, add_conditions, remove_conditions}
use Rattle.model.specs.TwoSheets.{joined_sheet, lines_conditions, full_conditions}
use Rattle.model.specs.TwoSpares.{two_conditions}
use Rattle.model.specs.TwoCalls.{saying_two}
use Rattle.call_laws.specs.Choices.{has_number}
use Rattle.call_laws.specs.Accepted.{refusal_front, refusal_past}
use Rattle.two_laws.specs.Encoding.{passing_joined}
use Rattle.two_check.specs.Areas.{two}

-- Conditions before others: they refuse, or the others tell.

-- what is told by the refusal
abbrev told_by : Rank → ℕ → Ranked
told_by x n = cond (eqb n 0) (record { refusal = 0; rank = x }) (record { refusal = n; rank = record { below = 0; present = false } })

pub told-front : (fs own : List Condition) (x : Rank) (n : ℕ) → n ≡ refusal_of fs → (n ≡ 0 → ⊥) → record { refusal = n; rank = record { below = 0; present = false } } ≡ told_rank (fs ++ own) x
told-front fs own x n e z = sym (ap (λ (b : Bool). cond b (record { refusal = 0; rank = x }) (record { refusal = n; rank = record { below = 0; present = false } })) (ne_eqb n 0 z)) ∙ ap (told_by x) (refusal_front fs own n e z)

pub told_past : (fs own : List Condition) (x : Rank) → all has_number fs ≡ true → refusal_of fs ≡ 0 → told_rank (fs ++ own) x ≡ told_rank own x
told_past fs own x numbered free = ap (told_by x) (refusal_past fs own numbered free)

-- of adding, or of removing
abbrev pub place_conditions : (adds full : Bool) → Key → List Record → List Condition
place_conditions adds full k rs = cond adds (add_conditions full k rs) (remove_conditions k rs)

-- the call that adds or removes
abbrev pub call_of : Bool → Key → Call
call_of adds k = cond adds (add k) (remove k)

-- of both sheets, spares included
unfoldable pub place_two : Bool → Key → List ℕ → List ℕ → List ℕ → Ranked
place_two adds k ps bs cs =
    told_rank (two_conditions ps bs cs ++ conditions (call_of adds k) (saying_two (two ps bs cs))) (ranked k (saying_two (two ps bs cs)).lines)

-- of sheets without spares
unfoldable pub place_full : (adds full : Bool) → Key → List ℕ → List ℕ → List ℕ → Ranked
place_full adds full k ps bs cs =
    told_rank (full_conditions ps bs cs ++ place_conditions adds full k (records (joined_sheet ps bs))) (ranked k (records (joined_sheet ps bs)))

module _ (adds full : Bool) (k : Key) (ps bs cs : List ℕ) where
  abbrev js : List Record
  js = records (joined_sheet ps bs)

  abbrev own : List Condition
  own = place_conditions adds full k js

  pub place_refused : (n : ℕ) → n ≡ refusal_of (full_conditions ps bs cs) → (n ≡ 0 → ⊥) → record { refusal = n; rank = record { below = 0; present = false } } ≡ place_full adds full k ps bs cs
  unfolding place_full
  place_refused n e z = told-front (full_conditions ps bs cs) own (ranked k js) n e z

  module _ (free : refusal_of (full_conditions ps bs cs) ≡ 0) where
    -- the joined sheet is good
    pub joined_good : (s : List ℕ) → s ≡ joined_sheet ps bs → records_accepted s ≡ true
    joined_good s joined = ap records_accepted joined ∙ (passing_joined (two ps bs cs) free).fit.0

    -- told of a sheet that is the joined one
    pub place_told : (s : List ℕ) → s ≡ joined_sheet ps bs → (b : Bool) → adds ≡ b → (r : Ranked) → r ≡ told_rank (place_conditions b full k (records s)) (ranked k (records s)) → r ≡ place_full adds full k ps bs cs
    unfolding place_full full_conditions lines_conditions all
    place_told s joined b e r h =
        h
        ∙ (ap₂ (λ (x : Bool) (t : List ℕ). told_rank (place_conditions x full k (records t)) (ranked k (records t))) (sym e) joined
        ∙ sym (told_past (full_conditions ps bs cs) own (ranked k js) refl free))
