-- Visit, case by case in the order of its conditions.
use Rattle.std.specs.Prelude.{◌≡◌, ◌∷◌, Result as Either, Ok, Err}
use Rattle.std.proofs.Common.{◌∙◌}
use Rattle.lists.specs.Basics.{refl, sym, ap, ap₂, subst, ℕ, Bool, true, false, not, cond, List, []}
use Rattle.model.specs.Types.{Key, Record, Some, None, Recovery, Stays, Forward, Back, Again, Busy}
use Rattle.model.specs.Records.{records, key_in_range, found, is_missing, has_line, line_of}
use Rattle.model.specs.Refusals.{refuse, refusal_of}
use Rattle.model.specs.Visits.{meeting, is_busy, recovery_write}
use Rattle.model.specs.Results.{visit, Answer, visited, Result, refused, made, unless}
use Rattle.model.specs.Writes.{Sheets}
use Rattle.model.specs.Conditions.{conditions}
use Rattle.model.specs.Calls.{outcome, result_of}
use Rattle.model.specs.ByteCalls.{sheets_of}
use Rattle.sheet_laws.specs.KeyOrder.{has_line_lem}
use Rattle.call_laws.specs.ByIndex.{found_at}
use Rattle.call_laws.specs.Accepted.{Outcome}
use Rattle.recover.specs.Recovering.{line_at, Standing, Recovered, line-parts, unless_busy, outcome-met}
use Rattle.answers.specs.Answers.{to_visited}

module _ (k : Key) (now : ℕ) (s : Sheets) where
  pub visit_out : key_in_range k ≡ false → result_of (visit k now) s ≡ refused 5
  unfolding result_of conditions refusal_of
  visit_out e = rw e

  pub visit_none : key_in_range k ≡ true → found k s.lines ≡ None → result_of (visit k now) s ≡ refused 6
  unfolding result_of conditions refusal_of is_missing
  visit_none e f = rw (e, f)

unless_busy_lem : (b : Bool) (r : Result Answer) → unless (refuse 5 false ∷ refuse 6 false ∷ refuse 12 b ∷ []) r ≡ cond b (refused 12) r
unfolding refusal_of
unless_busy_lem true r = refl
unless_busy_lem false r = refl

-- a visit by what it comes to: refused with 12 where the line is busy
abbrev pub visited_by : Recovery → Either Recovery ℕ
visited_by Stays = Ok Stays
visited_by Forward = Ok Forward
visited_by Back = Ok Back
visited_by Again = Ok Again
visited_by Busy = Err 12

said_by : (v : Recovery) (r : Record) → visited_by v ≡ to_visited (unless_busy v (visited v) r)
said_by Stays r = refl
said_by Forward r = refl
said_by Back r = refl
said_by Again r = refl
said_by Busy r = refl

module _ (now : ℕ) (rs cs : List ℕ) (i : ℕ) (s : Standing rs cs i) where
  visit_met : result_of (visit (line_at rs i).key now) (sheets_of rs cs) ≡ unless_busy (meeting now (sheets_of rs cs) (line_at rs i)) (visited (meeting now (sheets_of rs cs) (line_at rs i))) (line_at rs i)
  unfolding result_of outcome conditions
  visit_met =
      let k = (line_at rs i).key in
      let v = meeting now (sheets_of rs cs) (line_of k (records rs)) in
      let h : has_line k (records rs) ≡ true = has_line_lem k (records rs) ∙ s.index.listed in
      ap₂ (λ (x y : Bool). unless (refuse 5 (not x) ∷ refuse 6 (not y) ∷ refuse 12 (is_busy v) ∷ []) (made (visited v) (recovery_write v (line_of k (records rs)))))
      (line-parts rs cs i s).key h
      ∙ (unless_busy_lem (is_busy v) _
      ∙ ap (λ (r : Record). unless_busy (meeting now (sheets_of rs cs) r) (visited (meeting now (sheets_of rs cs) r)) r) (sym s.index.line))

  pub visit_outcome : (v : Recovery) {answer : Either Recovery ℕ} {rs' cs' : List ℕ} → Recovered now i rs cs v rs' cs' → answer ≡ visited_by v → Outcome to_visited (result_of (visit (line_at rs i).key now) (sheets_of rs cs)) rs cs answer rs' cs'
  visit_outcome v h a =
      outcome-met to_visited rs cs s.accepted v (visited v) (line_at rs i)
      (visit_met ∙ ap (λ (x : Recovery). unless_busy x (visited x) (line_at rs i)) (sym h.met))
      (a ∙ said_by v (line_at rs i)) h.written

-- the visit of a key at its line
pub visit_found : (k : Key) (now : ℕ) (rs cs : List ℕ) (i : ℕ) {answer : Either Recovery ℕ} {rs' cs' : List ℕ} → found k (records rs) ≡ Some i → Outcome to_visited (result_of (visit (line_at rs i).key now) (sheets_of rs cs)) rs cs answer rs' cs' → Outcome to_visited (result_of (visit k now) (sheets_of rs cs)) rs cs answer rs' cs'
visit_found k now rs cs i {answer} {rs'} {cs'} e h =
    subst (λ (j : Key). Outcome to_visited (result_of (visit j now) (sheets_of rs cs)) rs cs answer rs' cs') (found_at k (records rs) i e).key h
