-- A close is the advances that it makes, one after another, each accepted. A list of calls that hands a transaction on from one to the next is a record `Ran`,
-- made from the end: none, or one advance before others. That the model commits at one of them only is because a verdict once given stays.
use Rattle.std.specs.Prelude.{◌≡◌, ◌+◌, ◌^◌, ◌<◌, ◌&&◌, ◌∷◌, ◌++◌}
use Rattle.std.proofs.Common.{◌∙◌}
use Rattle.lists.specs.Basics.{refl, sym, ap, subst, ℕ, zero, suc, eqb, Bool, true, false, cond, List, [], some}
use Rattle.lists.specs.Basics.{some-injective, inl, inr, arith, eqb-true, eqb-false, ne_eqb}
use Rattle.model.specs.Types.{Transaction}
use Rattle.model.specs.Refusals.{refusal_of}
use Rattle.model.specs.Writes.{Sheets, Write, apply}
use Rattle.model.specs.WellFormed.{well_formed}
use Rattle.model.specs.Results.{Call, advance, Answer, returned, returns, made, write_of, answer_of}
use Rattle.model.specs.Conditions.{cannot_advance, conditions}
use Rattle.model.specs.Steps.{step}
use Rattle.model.specs.Calls.{outcome, result_of}
use Rattle.model.specs.Closing.{changes, Run, step_writes, stops, goes_on, turn, closing, closing_calls, writes_in}
use Rattle.model.specs.Histories.{Event, answer, written, after, given, taken_by, Available, events_after, left_by, Legal}
use Rattle.model.specs.SequentialModel.{Model, model_commit, commits_it, model_call, model_step, model_after}
use Rattle.call_laws.specs.Transactions.{well_formed-parts}
use Rattle.closing_laws.specs.Steps.{close_advance, Sound, may_go, sound_next, verdict_stays, step-number}

-- an advance that isn't refused
pub advance_made : (t : Transaction) (now : ℕ) (s : Sheets) → well_formed s t ≡ true → cannot_advance t s ≡ false
    → result_of (advance t now) s ≡ made (returned (step t now s).transaction) (step t now s).write
unfolding result_of outcome conditions refusal_of
advance_made t now s f c = rw (f, c) refl

advance_writes : (t : Transaction) (now : ℕ) (s : Sheets) → well_formed s t ≡ true → cannot_advance t s ≡ false → written (advance t now) s ≡ (step t now s).write
unfolding written
advance_writes t now s f c = ap write_of (advance_made t now s f c)

-- what the model makes of a call that takes t and returns u
abbrev pub model_taken : Transaction → Transaction → Model → Model
model_taken t u m = cond (commits_it (some t) (some u)) (model_commit t.number m) m

-- Calls that take t, hand it on from one to the next and return u: legal, and to others and to the model one call that takes t and returns u.
pub record Ran (cs : List Call) (t u : Transaction) (s s' : Sheets) (es : List Event) : Type 0 where
  pub legal : Legal answer after cs s es
  pub left : left_by answer after cs s ≡ s'
  pub mine : Available u (events_after answer after cs s es)
  pub others : (x : Transaction) → (x.number ≡ t.number → ⊥) → Available x es → Available x (events_after answer after cs s es)
  pub number : u.number ≡ t.number
  pub verdict : (t.verdict ≡ 0 → ⊥) → u.verdict ≡ t.verdict
  pub model : (m : Model) → model_after (events_after answer after cs s es) m ≡ model_taken t u (model_after es m)

-- no verdict is none and committed
never_both : (v : ℕ) → (eqb v 0 && eqb v 1) ≡ false
never_both v = go (eqb v 0) refl
  where
    go : (b : Bool) → eqb v 0 ≡ b → (b && eqb v 1) ≡ false
    go true e = ne_eqb v 1 (λ q. omega (arith, eqb-true v 0 e, q))
    go false e = refl

pub ran-none : (t : Transaction) (s : Sheets) (es : List Event) → Available t es → Ran [] t t s s es
unfolding left_by events_after
ran-none t s es a =
    record {
      legal = tt;
      left = refl;
      mine = a;
      others = λ x n h. h;
      number = refl;
      verdict = λ v. refl;
      model = λ m. sym (ap (λ (b : Bool). cond b (model_commit t.number (model_after es m)) (model_after es m)) (never_both t.verdict));
    }

-- the model's commit falls on one of two calls
once : (t u w : Transaction) (m : Model) → u.number ≡ t.number → ((t.verdict ≡ 0 → ⊥) → u.verdict ≡ t.verdict)
    → ((u.verdict ≡ 0 → ⊥) → w.verdict ≡ u.verdict) → model_taken u w (model_taken t u m) ≡ model_taken t w m
once t u w m n k l = go (eqb t.verdict 0) refl
  where
    after-t : Bool → Model
    after-t b = cond b (model_commit t.number m) m

    nothing_more : (eqb u.verdict 0 && eqb w.verdict 1) ≡ false → (x : Model) → model_taken u w x ≡ x
    nothing_more e x = ap (λ (b : Bool). cond b (model_commit u.number x) x) e

    go : (b : Bool) → eqb t.verdict 0 ≡ b → model_taken u w (after-t (b && eqb u.verdict 1)) ≡ after-t (b && eqb w.verdict 1)
    go false e =
        let q : t.verdict ≡ 0 → ⊥ = eqb-false t.verdict 0 e in
        nothing_more (ap (λ (x : ℕ). eqb x 0 && eqb w.verdict 1) (k q) ∙ ap (λ (b : Bool). b && eqb w.verdict 1) e) m
    go true e = by_u (eqb u.verdict 0) refl
      where
        by_u : (c : Bool) → eqb u.verdict 0 ≡ c → model_taken u w (after-t (eqb u.verdict 1)) ≡ after-t (eqb w.verdict 1)
        by_u true f =
            ap (λ (x : ℕ). model_taken u w (after-t (eqb x 1))) (eqb-true u.verdict 0 f)
            ∙ (ap (λ (b : Bool). cond (b && eqb w.verdict 1) (model_commit u.number m) m) f
            ∙ ap (λ (x : ℕ). cond (eqb w.verdict 1) (model_commit x m) m) n)
        by_u false f =
            nothing_more (ap (λ (b : Bool). b && eqb w.verdict 1) f) (after-t (eqb u.verdict 1))
            ∙ ap (λ (x : ℕ). after-t (eqb x 1)) (sym (l (eqb-false u.verdict 0 f)))

-- one advance, and then others
module _ (t w : Transaction) (now : ℕ) (s s' : Sheets) (es : List Event) (fits : now < 2 ^ 32) (f : well_formed s t ≡ true) (c : cannot_advance t s ≡ false) where
  abbrev u : Transaction
  u = (step t now s).transaction

  abbrev ev : Answer → Event
  ev x = record { call = advance t now; answer = x }

  kept : (t.verdict ≡ 0 → ⊥) → u.verdict ≡ t.verdict
  kept = verdict_stays s t now (well_formed-parts s t f).1

  said : answer (advance t now) s ≡ returned u
  unfolding answer
  said = ap answer_of (advance_made t now s f c)

  leaves : after (advance t now) s ≡ apply (step t now s).write s
  unfolding after
  leaves = ap (λ (w : Write). apply w s) (advance_writes t now s f c)

  pub ran_more : (cs : List Call) → Available t es → Ran cs u w (apply (step t now s).write s) s' (ev (returned u) ∷ es) → Ran (advance t now ∷ cs) t w s s' es
  unfolding left_by events_after model_after model_step model_call given
  ran_more cs a r =
      record {
        legal = (record { clock = fits; state = subst Takes (sym said) takes }, tail.legal);
        left = tail.left;
        mine = tail.mine;
        others = λ x n h. tail.others x (λ q. n (q ∙ step-number t now s))
            (inr (subst (λ (y : Answer). taken_by (advance t now) y ≡ some x → ⊥) (sym said) (not_taken x n), h));
        number = tail.number ∙ step-number t now s;
        verdict = λ v. tail.verdict (λ q. v (sym (kept v) ∙ q)) ∙ kept v;
        model = λ m. tail.model m
            ∙ (ap (λ (x : Answer). model_taken u w (model_step (ev x) (model_after es m))) said
            ∙ once t u w (model_after es m) (step-number t now s) kept r.verdict);
      }
    where
      Takes : Answer → Type 0
      Takes x = (y : Transaction) → taken_by (advance t now) x ≡ some y → Available y es

      takes : (y : Transaction) → some t ≡ some y → Available y es
      takes y q = subst (λ (z : Transaction). Available z es) (some-injective t y q) a

      not_taken : (x : Transaction) → (x.number ≡ t.number → ⊥) → some t ≡ some x → ⊥
      not_taken x n q = n (ap (λ (z : Transaction). z.number) (sym (some-injective t x q)))

      tail : Ran cs u w (after (advance t now) s) s' (ev (answer (advance t now) s) ∷ es)
      tail =
          subst (λ (x : Answer). Ran cs u w (after (advance t now) s) s' (ev x ∷ es)) (sym said)
          (subst (λ (x : Sheets). Ran cs u w x s' (ev (returned u) ∷ es)) (sym leaves) r)

-- what a close of so many turns comes to
abbrev pub RunAsAdvances : ℕ → ℕ → Run → List Event → Type 0
RunAsAdvances n now x es = Ran (closing_calls n now x) x.transaction (closing n now x).transaction x.sheets (closing n now x).sheets es

-- "For every limit the report, transaction and sheets are those of advances made one after another up to there."
pub close_is_advances : (n now : ℕ) → now < 2 ^ 32 → (x : Run) → Sound x → (es : List Event) → Available x.transaction es → RunAsAdvances n now x es
unfolding closing closing_calls turn returns
close_is_advances zero now fits x k es a = ran-none x.transaction x.sheets es a
close_is_advances (suc n) now fits x k es a = go (stops now x) refl (λ y k' es' a'. close_is_advances n now fits y k' es' a')
  where
    t : Transaction
    t = x.transaction

    next : Bool → Run
    next b = cond b x (goes_on now x)

    made_first : Event
    made_first = record { call = advance t now; answer = returned (goes_on now x).transaction }

    go : (b : Bool) → stops now x ≡ b → ((y : Run) → Sound y → (es' : List Event) → Available y.transaction es' → RunAsAdvances n now y es')
        → Ran (cond b [] (advance t now ∷ []) ++ closing_calls n now (next b)) t (closing n now (next b)).transaction x.sheets (closing n now (next b)).sheets es
    go true q rec = rec x k es a
    go false q rec =
        let c = may_go now x k.going q in
        let end = closing n now (next false) in
        ran_more t end.transaction now x.sheets end.sheets es fits k.formed (close_advance t x.sheets c) (closing_calls n now (next false)) a
        (rec (next false) (sound_next now fits x k c) (made_first ∷ es) (inl refl))

-- "The report equals the writes of the step table": those that the advances make.
pub report_is_writes : (n now : ℕ) → now < 2 ^ 32 → (x : Run) → Sound x → (closing n now x).writes ≡ x.writes + writes_in (closing_calls n now x) x.sheets
unfolding closing closing_calls turn writes_in after
report_is_writes zero now fits x k = omega arith
report_is_writes (suc n) now fits x k = go (stops now x) refl (λ y k'. report_is_writes n now fits y k')
  where
    t : Transaction
    t = x.transaction

    s : Sheets
    s = x.sheets

    next : Bool → Run
    next b = cond b x (goes_on now x)

    sum : (b : Bool) (w r : ℕ) → cond b (w + 1) w + r ≡ w + (cond b 1 0 + r)
    sum true w r = omega arith
    sum false w r = omega arith

    go : (b : Bool) → stops now x ≡ b → ((y : Run) → Sound y → (closing n now y).writes ≡ y.writes + writes_in (closing_calls n now y) y.sheets)
        → (closing n now (next b)).writes ≡ x.writes + writes_in (cond b [] (advance t now ∷ []) ++ closing_calls n now (next b)) s
    go true q rec = rec x k
    go false q rec =
        let c = may_go now x k.going q in
        let cs = closing_calls n now (next false) in
        rec (next false) (sound_next now fits x k c)
        ∙ (sum (step_writes now x) x.writes (writes_in cs (next false).sheets)
        ∙ ap (λ (w : Write). x.writes + (cond (changes w s) 1 0 + writes_in cs (apply w s))) (sym (advance_writes t now s k.formed (close_advance t s c))))
