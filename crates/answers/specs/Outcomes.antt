-- One result told twice: accepted both times with the same, or refused both times with the same. What a `?` hands on, and what it tells of an
-- option that `ok_or` made a result.
use Rattle.std.specs.Prelude.{◌≡◌, Option, Some, None, Result, Ok, Err, IsOkAnd, IsErrAnd, MatchResult}
use Rattle.std.specs.Option.{ok_or}
use Rattle.std.specs.Result.{result_ok}
use Rattle.std.proofs.Common.{◌∙◌}
use Rattle.std.proofs.lemmas.Result.{err_from_is_err_and}
use Rattle.lists.specs.Basics.{refl, sym, ap, subst, ℕ, arith}
use Rattle.types.specs.declared.Refusal.{Refusal}
use Rattle.types.specs.declared.Refusal.TheVariants.{BadRecords, BadCoordinator, BadTransaction, WrongPhase, BadKey, NoSuchKey, BadColumns, NumbersSpent}
use Rattle.types.specs.declared.Refusal.TheVariants.{EntriesSpent, NotHeld, VersionsSpent, Busy, SheetsDiffer, HasLine, NoSpare, NotBlank}
use Rattle.model.specs.Refusals.{refusal_number, refused_with}
use Rattle.answers.specs.Answers.{in_numbers}

module _ {A E : Type 0} {r : Result A E} where
  pub ok_same : {a b : A} → r ≡ Ok a → r ≡ Ok b → a ≡ b
  ok_same {a} {b} e f = ap go (sym e ∙ f)
    where
      go : Result A E → A
      go (Ok x) = x
      go (Err x) = a

  pub err_same : {a b : E} → r ≡ Err a → r ≡ Err b → a ≡ b
  err_same {a} {b} e f = ap go (sym e ∙ f)
    where
      go : Result A E → E
      go (Ok x) = a
      go (Err x) = x

  pub ok_not_err : {a : A} {b : E} → r ≡ Ok a → r ≡ Err b → ⊥
  ok_not_err e f = subst go (sym e ∙ f) tt
    where
      go : Result A E → Type 0
      go (Ok x) = Unit {0}
      go (Err x) = ⊥

-- the refusal that a `?` returns is the one that it met
pub passed_up : {A E : Type 0} {r : Result A E} {x : E} → IsErrAnd r (λ (y : E). y ≡ x) → r ≡ Err x
passed_up {r = r} h = let p = err_from_is_err_and r h in p.1 ∙ ap Err p.2

module _ {A E : Type 0} {o : Option A} {r : Result A E} (e : o ≡ result_ok r) where
  pub some_of : {a : A} → r ≡ Ok a → o ≡ Some a
  some_of h = e ∙ ap result_ok h

  pub none_of : {d x : E} → r ≡ ok_or o d → r ≡ Err x → (o ≡ None) × (x ≡ d)
  none_of {d} f h = let n = e ∙ ap result_ok h in (n, err_same h (f ∙ ap (λ (p : Option A). ok_or p d) n))

-- no refusal has number 0
pub numbered_lem : (x : Refusal) → refusal_number x ≡ 0 → ⊥
numbered_lem BadRecords h = omega (arith, h)
numbered_lem BadCoordinator h = omega (arith, h)
numbered_lem BadTransaction h = omega (arith, h)
numbered_lem WrongPhase h = omega (arith, h)
numbered_lem BadKey h = omega (arith, h)
numbered_lem NoSuchKey h = omega (arith, h)
numbered_lem BadColumns h = omega (arith, h)
numbered_lem NumbersSpent h = omega (arith, h)
numbered_lem EntriesSpent h = omega (arith, h)
numbered_lem NotHeld h = omega (arith, h)
numbered_lem VersionsSpent h = omega (arith, h)
numbered_lem Busy h = omega (arith, h)
numbered_lem SheetsDiffer h = omega (arith, h)
numbered_lem HasLine h = omega (arith, h)
numbered_lem NoSpare h = omega (arith, h)
numbered_lem NotBlank h = omega (arith, h)

-- What a function tells that has nothing else to say: the number of its refusal, which isn't 0, or that there is none.
module _ {A : Type 0} {r : Result A Refusal} {n : ℕ} (told : refused_with r ≡ n) where
  pub free_by : {a : A} → r ≡ Ok a → n ≡ 0
  free_by h = sym told ∙ ap refused_with h

  pub refused_by : {x : Refusal} → r ≡ Err x → (refusal_number x ≡ n) × (n ≡ 0 → ⊥)
  refused_by {x} h = let e = sym (ap refused_with h) ∙ told in (e, λ z. numbered_lem x (e ∙ z))

-- what is made of an accepted answer; a refusal stays
abbrev pub mapped : {A B E : Type 0} → (A → B) → Result A E → Result B E
mapped g (Ok a) = Ok (g a)
mapped g (Err e) = Err e

-- `map` does that
pub mapped_by : {A B : Type 0} (g : A → B) (r : Result A Refusal) (s : Result B Refusal) → MatchResult r (λ x. IsOkAnd s (λ y. y ≡ g x)) (λ e. s ≡ Err e) → in_numbers s ≡ mapped g (in_numbers r)
mapped_by {B = B} g (Ok x) (Ok y) h = ap (λ (z : B). Ok z) h
mapped_by g (Ok x) (Err e) h = absurd h
mapped_by g (Err e) s h = ap in_numbers h
