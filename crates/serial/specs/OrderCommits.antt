-- A commit at its position in the order, apart from sheets: its puts are fresh, so that none after it has written their keys and they are the last of the
-- serial run there; what others have validated is not touched, since no one in doubt before them writes it; and what is fresh afterwards was fresh before and
-- not written.
use Rattle.std.specs.Prelude.{◌≡◌, ◌⊎◌}
use Rattle.std.proofs.Common.{◌∙◌}
use Rattle.lists.specs.Basics.{refl, sym, ap, subst, ℕ, eqb, Bool, true, false, List, Option, none, some, inl, inr, eqb-true, eqb-false}
use Rattle.lists.specs.Members.{Mem, here, there}
use Rattle.model.specs.Types.{Key, Record, Entry}
use Rattle.model.specs.Images.{Change}
use Rattle.model.specs.SequentialModel.{overwritten}
use Rattle.serial.specs.Runs.{Placing, wrote, ran, run_line, overwritten-none, unwritten, run_other, sight_in, Fresh, NotAhead, fresh_unwritten}
use Rattle.serial.specs.Order.{Later, Stands, EachStands, none_placed, one_more, Consistent, same_number}

-- the number n is committed now, and nothing else
pub record Committing (c c' : ℕ → Bool) (n : ℕ) : Type 0 where
  pub before : c n ≡ false
  pub after : c' n ≡ true
  pub others : (j : ℕ) → (j ≡ n → ⊥) → c' j ≡ c j

-- the entry that writes a key, as fresh as the line
pub record FreshPut (line : Key → Record) (p : Placing) (k : Key) : Type 0 where
  pub entry : Entry
  pub member : Mem entry p.entries
  pub key : entry.key ≡ k
  pub fresh : Fresh line entry

-- The commit of p, in doubt until now, in a consistent order.
pub record CommitOf (first line line' : Key → Record) (c c' : ℕ → Bool) (doubt doubt' : ℕ → Type 0) (valid valid' : Placing → Entry → Type 0)
    (all : List Placing) (p : Placing) : Type 0 where
  pub consistent : Consistent first line c doubt valid all
  pub member : Mem p all
  pub in_doubt : doubt p.number
  pub committing : Committing c c' p.number
  -- the lines become what it writes, and what it writes was fresh
  pub lines : (k : Key) → line' k ≡ overwritten p.number (wrote k p) (line k)
  pub puts : (k : Key) (x : Change) → wrote k p ≡ some x → FreshPut line p k
  -- those in doubt afterwards were so before, and none of their entries is newer than its line
  pub fewer : (q : Placing) → Mem q all → doubt' q.number → doubt q.number
  pub known : (q : Placing) → Mem q all → doubt' q.number → (e : Entry) → Mem e q.entries → NotAhead line e
  -- what is validated afterwards was so before
  pub validated : (q : Placing) → Mem q all → (e : Entry) → Mem e q.entries → valid' q e → valid q e

module _ {first line line' : Key → Record} {c c' : ℕ → Bool} {doubt doubt' : ℕ → Type 0} {valid valid' : Placing → Entry → Type 0}
    {all : List Placing} {p : Placing} (u : CommitOf first line line' c c' doubt doubt' valid valid' all p) where
  others : (j : ℕ) → (j ≡ p.number → ⊥) → c' j ≡ c j
  others = u.committing.others

  -- a choice by number: p itself, or one whose number is committed or not as before
  by_number : (P : Type 0) (q : Placing) → Mem q all → (q ≡ p → P) → (c' q.number ≡ c q.number → P) → P
  by_number P q n f g = go (eqb q.number p.number) refl
    where
      go : (b : Bool) → eqb q.number p.number ≡ b → P
      go true e = f (same_number all u.consistent.each q p n u.member (eqb-true q.number p.number e))
      go false e = g (others q.number (eqb-false q.number p.number e))

  -- The lines. Where it writes a key, no committed one after it has: its write is the last of the serial run.

  inserted : (k : Key) → FreshPut line p k → (ps : List Placing) → EachStands first line c doubt valid ps → Mem p ps
      → run_line c' first ps k ≡ overwritten p.number (wrote k p) (run_line c first ps k)
  unfolding run_line
  inserted k x ps (one_more q xs f a i) here =
      ap (λ (b : Bool). ran b p k (run_line c' first xs k)) u.committing.after
      ∙ ap (overwritten p.number (wrote k p))
      (run_other c c' first k xs (λ r m. inl (others r.number (λ e. (a r m).other (sym e))))
      ∙ ap (λ (b : Bool). ran b p k (run_line c first xs k)) (sym u.committing.before))
  inserted k x ps (one_more q xs f a i) (there m) =
      ap (λ (b : Bool). ran b q k (run_line c' first xs k)) (others q.number (a p m).other)
      ∙ (skipped (c q.number) refl (run_line c' first xs k)
      ∙ (inserted k x xs i m ∙ ap (overwritten p.number (wrote k p)) (sym (skipped (c q.number) refl (run_line c first xs k)))))
    where
      skipped : (b : Bool) → c q.number ≡ b → (r : Record) → ran b q k r ≡ r
      skipped true e r =
          unwritten true q k r (ap (λ (j : Key). wrote j q) (sym x.key) ∙ (a p m).clear u.in_doubt x.entry x.member x.fresh e)
      skipped false e r = refl
  inserted k x _ none_placed x4 = elim x4 [ ]

  commit_lines : (k : Key) → run_line c' first all k ≡ overwritten p.number (wrote k p) (line k)
  commit_lines k = go (wrote k p) refl
    where
      go : (x : Option Change) → wrote k p ≡ x → run_line c' first all k ≡ overwritten p.number (wrote k p) (line k)
      go none e =
          run_other c c' first k all (λ q n. by_number _ q n (λ d. inr (ap (wrote k) d ∙ e)) inl)
          ∙ (u.consistent.lines k ∙ sym (overwritten-none p.number (wrote k p) (line k) e))
      go (some w) e =
          inserted k (u.puts k w e) all u.consistent.each u.member ∙ ap (overwritten p.number (wrote k p)) (u.consistent.lines k)

  -- Each one and each pair.

  commit_later : (x q : Placing) → Mem x all → Mem q all → Later line c doubt x q → Later line' c' doubt' x q
  commit_later x q m n a =
      record {
        other = a.other;
        clear = λ w e i f h. go w e i f h (fresh_unwritten line line' e p.number (wrote e.key p) (u.lines e.key) (u.known q n w e i) f);
      }
    where
      go : doubt' q.number → (e : Entry) → Mem e q.entries → Fresh line' e → c' x.number ≡ true → wrote e.key p ≡ none
          → wrote e.key x ≡ none
      go w e i f h z = by_number _ x m (λ d. ap (wrote e.key) d ∙ z) (λ s. a.clear (u.fewer q n w) e i was (sym s ∙ h))
        where
          was : Fresh line e
          was = f ∙ ap sight_in (u.lines e.key ∙ overwritten-none p.number (wrote e.key p) (line e.key) z)

  commit_stands : (q : Placing) (ps : List Placing) → Mem q all → ((x : Placing) → Mem x ps → Mem x all) → Stands first c doubt valid q ps
      → Stands first c' doubt' valid' q ps
  commit_stands q ps n sub f =
      record {
        saw = λ e i w. let v : valid q e = u.validated q n e i w in
            f.saw e i v ∙ ap sight_in (sym (run_other c c' first e.key ps (λ x m. same e i v x m)));
        safe = λ e i w x m y. f.safe e i (u.validated q n e i w) x m (u.fewer x (sub x m) y);
      }
    where
      same : (e : Entry) → Mem e q.entries → valid q e → (x : Placing) → Mem x ps → (c' x.number ≡ c x.number) ⊎ (wrote e.key x ≡ none)
      same e i v x m = by_number _ x (sub x m) (λ d. inr (f.safe e i v x m (subst (λ (y : Placing). doubt y.number) (sym d) u.in_doubt))) inl

  commit_each : (ps : List Placing) → ((x : Placing) → Mem x ps → Mem x all) → EachStands first line c doubt valid ps
      → EachStands first line' c' doubt' valid' ps
  commit_each ps sub none_placed = none_placed
  commit_each ps sub (one_more x xs f a i) =
      one_more x xs (commit_stands x xs (sub x here) (λ y m. sub y (there m)) f)
      (λ y m. commit_later x y (sub x here) (sub y (there m)) (a y m))
      (commit_each xs (λ y m. sub y (there m)) i)

  pub commits : Consistent first line' c' doubt' valid' all
  commits = record { each = commit_each all (λ x m. m) u.consistent.each; lines = λ k. commit_lines k ∙ sym (u.lines k) }
