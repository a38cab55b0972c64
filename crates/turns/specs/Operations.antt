-- What an operation leaves, on good sheets: a call has these laws already, and a close keeps at every step what the next step asks for.
use Rattle.std.specs.Prelude.{◌≡◌, ◌^◌, ◌<◌}
use Rattle.std.proofs.Common.{◌∙◌}
use Rattle.lists.specs.Basics.{refl, sym, ap, subst, ℕ, true, some, none-ne-some, some-injective}
use Rattle.model.specs.Types.{Transaction}
use Rattle.model.specs.Coordinator.{Coordinator}
use Rattle.model.specs.Refusals.{refusal_of}
use Rattle.model.specs.Writes.{Sheets, sheets_good, Write, decisions_after, apply}
use Rattle.model.specs.WellFormed.{well_formed}
use Rattle.model.specs.Results.{Answer, returns, Response, Result, refused, made, write_of, answer_of}
use Rattle.model.specs.Steps.{step}
use Rattle.model.specs.Calls.{result_of}
use Rattle.model.specs.Histories.{answer, written, after, ClockFits}
use Rattle.model.specs.ByteHistories.{Bytes, saying, Readable}
use Rattle.model.specs.Closing.{Run, starting, most_steps, close_conditions}
use Rattle.model.specs.Operations.{Operation, once, close, stands_for, settled, close_run, response, sheets_left, sheet_left, coordinator_left, bytes_left}
use Rattle.call_laws.specs.Choices.{unless_by}
use Rattle.call_laws.specs.Closure.{sheets_stay_good, returned_well_formed}
use Rattle.call_laws.specs.Lifting.{apply_nothing, encoded, readable_encoded}
use Rattle.closing_laws.specs.Steps.{Sound, starts_sound, may_go, sound_next, closing_every, closing_by}

-- a close that isn't refused ends on good sheets, with a well-formed transaction
pub close_sound : (t : Transaction) (now limit : ℕ) (s : Sheets) → now < 2 ^ 32 → sheets_good s ≡ true → refusal_of (close_conditions t s) ≡ 0 → Sound (close_run t now limit s)
close_sound t now limit s fits g z =
    let k : Sound (starting t limit s) = starts_sound t limit s g z in
    closing_by Sound now fits (λ y p q r. sound_next now fits y p (may_go now y p.going q)) most_steps (starting t limit s) k k

-- the sheets after a call
pub settled-left : (s : Sheets) (r : Result Answer) → sheets_left s (settled s r) ≡ apply (write_of r) s
settled-left s (refused n) = sym (apply_nothing s)
settled-left s (made a w) = refl

pub settled-answer : (s : Sheets) (r : Result Answer) → answer_of (settled s r) ≡ answer_of r
settled-answer s (refused n) = refl
settled-answer s (made a w) = refl

pub operation_stays_good : (o : Operation) (s : Sheets) → ClockFits (stands_for o) → sheets_good s ≡ true → sheets_good (sheets_left s (response o s)) ≡ true
unfolding stands_for response after written
operation_stays_good (once c) s l g = ap sheets_good (settled-left s (result_of c s)) ∙ sheets_stay_good c s l g
operation_stays_good (close t now limit) s l g =
    unless_by (λ (r : Response Answer Sheets). sheets_good (sheets_left s r) ≡ true) (close_conditions t s) g (λ z. (close_sound t now limit s l g z).good)

pub operation_returns_formed : (o : Operation) (s : Sheets) (t : Transaction) → ClockFits (stands_for o) → sheets_good s ≡ true → returns (answer_of (response o s)) ≡ some t → well_formed (sheets_left s (response o s)) t ≡ true
unfolding stands_for response after written answer returns
operation_returns_formed (once c) s t l g e =
    ap (λ (z : Sheets). well_formed z t) (settled-left s (result_of c s))
    ∙ returned_well_formed c s t l g (ap returns (sym (settled-answer s (result_of c s))) ∙ e)
operation_returns_formed (close u now limit) s t l g e =
    unless_by (λ (r : Response Answer Sheets). returns (answer_of r) ≡ some t → well_formed (sheets_left s r) t ≡ true) (close_conditions u s)
    (λ e. absurd (none-ne-some t e))
    (λ z e. let x = close_run u now limit s in
    ap (well_formed x.sheets) (sym (some-injective x.transaction t e)) ∙ (close_sound u now limit s l g z).formed)
    e

-- what every write keeps of the coordinator sheet an operation keeps
pub operation_keeps : (P : Coordinator → Type 0) → ((w : Write) (c : Coordinator) → P c → P (decisions_after w c)) → (o : Operation) (s : Sheets) → P s.coordinator → P (sheets_left s (response o s)).coordinator
unfolding response apply
operation_keeps P f (once c) s p =
    subst (λ (z : Sheets). P z.coordinator) (sym (settled-left s (result_of c s))) (f (write_of (result_of c s)) s.coordinator p)
operation_keeps P f (close t now limit) s p =
    unless_by (λ (r : Response Answer Sheets). P (sheets_left s r).coordinator) (close_conditions t s) p
    (λ z. closing_every (λ (x : Run). P x.sheets.coordinator) now
    (λ y e. f (step y.transaction now y.sheets).write y.sheets.coordinator e) most_steps (starting t limit s) p)

-- the bytes that are left on readable bytes are the sheets that are left, encoded
pub bytes_of_response : {A : Type 0} (b : Bytes) (r : Response A Sheets) → Readable b → bytes_left b r ≡ encoded (sheets_left (saying b) r)
unfolding sheet_left coordinator_left
bytes_of_response b (made a s) h = refl
bytes_of_response b (refused n) h = sym (readable_encoded b h)
