-- What a call on two sheets comes to: refused by what is asked of the sheets, or the call on what they say when joined, split where it is accepted.
use Rattle.std.specs.Prelude.{◌≡◌, ◌*◌, ◌/◌, Result as Either, Ok, Err}
use Rattle.std.proofs.Common.{◌∙◌}
use Rattle.lists.specs.Basics.{refl, sym, ap, subst, ℕ, List, length, take, length-take, arith, eqb-true}
use Rattle.model.specs.Types.{Key, Transaction, Recovery, Request}
use Rattle.model.specs.Layouts.{record_bytes}
use Rattle.model.specs.Refusals.{refusal_of}
use Rattle.model.specs.Writes.{Sheets}
use Rattle.model.specs.Results.{Answer, held_after, Response, Result, refused, made, visit}
use Rattle.model.specs.Calls.{result_of}
use Rattle.model.specs.ByteCalls.{sheets_of}
use Rattle.model.specs.Operations.{Operation, once, settled, response, records_left, coordinator_left}
use Rattle.model.specs.Requests.{operation_of}
use Rattle.model.specs.TwoSheets.{plain_bytes, bookkeeping_bytes, joined_sheet, plain_part, bookkeeping_part, full_conditions}
use Rattle.model.specs.FullCalls.{PassingFull, saying_full, response_full, full_plain_left, full_bookkeeping_left}
use Rattle.call_laws.specs.Accepted.{Accepted, Outcome, accepted_fit, unless-held}
use Rattle.call_laws.specs.Lifting.{LinesFit}
use Rattle.call_laws.specs.Exactness.{Sound, sound_refused}
use Rattle.call_laws.specs.Operations.{response_sound, settled_lines, settled-decisions}
use Rattle.two_laws.specs.Encoding.{Joined, passing_joined, on_passing_full}
use Rattle.two_join.specs.Agrees.{same_counts}
use Rattle.answers.specs.declared.Performed.{Performed}
use Rattle.answers.specs.Answers.{replied, said, recovery_in, to_performed, to_visited}
use Rattle.answers.specs.Outcomes.{ok_not_err}
use Rattle.two_check.specs.Areas.{two, joined_size, JoinedIn}

-- sheets that pass, and beside them the joined one
pub record OnJoined (ps bs cs area : List ℕ) : Type 0 where
  pub passes : PassingFull (two ps bs cs)
  pub joined : area ≡ joined_sheet ps bs
  pub size : length area ≡ joined_size plain_bytes ps

pub on_joined : (ps bs cs area : List ℕ) → refusal_of (full_conditions ps bs cs) ≡ 0 → JoinedIn ps bs area → OnJoined ps bs cs (take (joined_size plain_bytes ps) area)
on_joined ps bs cs area p j =
    let l = j.fits in record { passes = p; joined = j.joined; size = simp length-take (omega arith) }

-- the answer, made so of a response, and the bytes of all three sheets are those of an operation
abbrev pub GivesAs : {A : Type 0} → (Response Answer Sheets → A) → Operation → List ℕ → List ℕ → List ℕ → A → List ℕ → List ℕ → List ℕ → Type 0
GivesAs to o ps bs cs r ps' bs' cs' =
    (r ≡ to (response_full o (two ps bs cs)))
    × ((ps' ≡ full_plain_left ps (response_full o (two ps bs cs)))
    × ((bs' ≡ full_bookkeeping_left bs (response_full o (two ps bs cs))) × (cs' ≡ coordinator_left cs (response_full o (two ps bs cs)))))

-- what is made of an accepted answer, of a transaction
abbrev pub performing : Transaction → Answer → Performed
performing t a = record { reply = replied a; transaction = held_after t a }

-- those of an operation, of a transaction
abbrev pub Gives : Operation → Transaction → List ℕ → List ℕ → List ℕ → Either Performed ℕ → List ℕ → List ℕ → List ℕ → Type 0
Gives o t ps bs cs r ps' bs' cs' = GivesAs (to_performed t) o ps bs cs r ps' bs' cs'

-- those of what is asked
abbrev pub Performs : Request → Transaction → List ℕ → List ℕ → List ℕ → Either Performed ℕ → List ℕ → List ℕ → List ℕ → Type 0
Performs q t ps bs cs r ps' bs' cs' = Gives (operation_of q t) t ps bs cs r ps' bs' cs'

module _ (ps bs cs area : List ℕ) (a : OnJoined ps bs cs area) where
  joins : Joined (two ps bs cs)
  joins = passing_joined (two ps bs cs) a.passes

  pub accepted_area : Accepted area cs
  accepted_area = accepted_fit area cs (subst (λ (x : List ℕ). LinesFit x cs) (sym a.joined) joins.fit)

  pub plain_size : length ps ≡ length area / record_bytes * plain_bytes
  plain_size = let n = a.size in let w = eqb-true (length ps) (length ps / plain_bytes * plain_bytes) joins.lines.plain in omega arith

  pub bookkeeping-size : length bs ≡ length area / record_bytes * bookkeeping_bytes
  bookkeeping-size =
      let n = a.size in
      let w = eqb-true (length bs) (length bs / bookkeeping_bytes * bookkeeping_bytes) joins.lines.bookkeeping in
      let c = same_counts ps bs joins.lines.agree in
      omega arith

-- a refusal is answered as such, and nothing else is
pub record Telling {A : Type 0} (to : Response Answer Sheets → Either A ℕ) : Type 0 where
  pub no : (n : ℕ) → to (refused n) ≡ Err n
  pub yes : (a : Answer) (s : Sheets) {n : ℕ} → to (made a s) ≡ Err n → ⊥

-- as where an accepted answer is what is made so of it
pub said_tells : {A : Type 0} (f : Answer → A) → Telling (said f)
said_tells f = record { no = λ n. refl; yes = λ a s e. ok_not_err refl e }

pub performed_tells : (t : Transaction) → Telling (to_performed t)
performed_tells t = said_tells (performing t)

pub visited_tells : Telling to_visited
visited_tells = said_tells recovery_in

module _ {A : Type 0} (to : Response Answer Sheets → Either A ℕ) (o : Operation) (ps bs cs : List ℕ) where
  abbrev given : Response Answer Sheets
  given = response_full o (two ps bs cs)

  pub sheets_refused : {r : Either A ℕ} (n : ℕ) → n ≡ refusal_of (full_conditions ps bs cs) → (n ≡ 0 → ⊥) → r ≡ to (refused n) → GivesAs to o ps bs cs r ps bs cs
  unfolding response_full full_plain_left full_bookkeeping_left coordinator_left
  sheets_refused n e z h =
      let x : given ≡ refused n = unless-held (full_conditions ps bs cs) (response o (saying_full (two ps bs cs))) n (sym e) z in
      (h ∙ ap to (sym x), (ap (full_plain_left ps) (sym x), (ap (full_bookkeeping_left bs) (sym x), ap (coordinator_left cs) (sym x))))

  module _ (area : List ℕ) (a : OnJoined ps bs cs area) where
    same : given ≡ response o (sheets_of area cs)
    unfolding response_full
    same = on_passing_full (two ps bs cs) (response o) a.passes ∙ ap (λ (x : List ℕ). response o (sheets_of x cs)) (sym a.joined)

    -- what the call on the joined sheet left
    module _ (tells : Telling to) (r : Either A ℕ) (area' cs' : List ℕ) (said : r ≡ to (response o (sheets_of area cs)))
        (lines : area' ≡ records_left area (response o (sheets_of area cs))) (decisions : cs' ≡ coordinator_left cs (response o (sheets_of area cs))) where
      pub nothing_split : {n : ℕ} → r ≡ Err n → GivesAs to o ps bs cs r ps bs cs'
      nothing_split z = subst Told (sym same) (go (response o (sheets_of area cs)) said decisions)
        where
          Told : Response Answer Sheets → Type 0
          Told x = (r ≡ to x) × ((ps ≡ full_plain_left ps x) × ((bs ≡ full_bookkeeping_left bs x) × (cs' ≡ coordinator_left cs x)))

          go : (x : Response Answer Sheets) → r ≡ to x → cs' ≡ coordinator_left cs x → Told x
          go (refused n) e d = (e, (unfold full_plain_left in refl, (unfold full_bookkeeping_left in refl, d)))
          go (made b s) e d = absurd (tells.yes b s (sym e ∙ z))

      pub both_split : {x : A} → r ≡ Ok x → {ps' bs' : List ℕ} → ps' ≡ plain_part area' → bs' ≡ bookkeeping_part area' → GivesAs to o ps bs cs r ps' bs' cs'
      both_split z {ps'} {bs'} p b = subst Told (sym same) (go (response o (sheets_of area cs)) (response_sound o (sheets_of area cs)) said lines decisions)
        where
          Told : Response Answer Sheets → Type 0
          Told x = (r ≡ to x) × ((ps' ≡ full_plain_left ps x) × ((bs' ≡ full_bookkeeping_left bs x) × (cs' ≡ coordinator_left cs x)))

          go : (x : Response Answer Sheets) → Sound x → r ≡ to x → area' ≡ records_left area x → cs' ≡ coordinator_left cs x → Told x
          go (refused n) (sound_refused m l k) e f d = absurd (ok_not_err z (e ∙ tells.no n))
          go (made c s) k e f d =
              (e, (p ∙ unfold full_plain_left records_left in ap plain_part f, (b ∙ unfold full_bookkeeping_left records_left in ap bookkeeping_part f, d)))

-- A visit on the joined sheet, as the visit of the definitions leaves it.
module _ (k : Key) (now : ℕ) (rs cs : List ℕ) {r : Either Recovery ℕ} {rs' cs' : List ℕ} (h : Outcome to_visited (result_of (visit k now) (sheets_of rs cs)) rs cs r rs' cs') where
  answered : (x : Result Answer) → to_visited (settled (sheets_of rs cs) x) ≡ to_visited x
  answered (refused n) = refl
  answered (made a w) = refl

  pub visit_said : r ≡ to_visited (response (once (visit k now)) (sheets_of rs cs))
  unfolding response
  visit_said = h.said ∙ sym (answered (result_of (visit k now) (sheets_of rs cs)))

  pub visit_lines : rs' ≡ records_left rs (response (once (visit k now)) (sheets_of rs cs))
  unfolding response
  visit_lines = h.lines ∙ sym (settled_lines rs cs (result_of (visit k now) (sheets_of rs cs)))

  pub visit_decisions : cs' ≡ coordinator_left cs (response (once (visit k now)) (sheets_of rs cs))
  unfolding response
  visit_decisions = h.decisions ∙ sym (settled-decisions rs cs (result_of (visit k now) (sheets_of rs cs)))
