-- Checked transactions are serializable, over decoded sheets. What is known at the end of a history, of positions and entries, says of numbers what is claimed:
-- a committed transaction has validated all its entries, which are what its reads answered, and the page of a number is what its entries put.
use Rattle.std.specs.Prelude.{◌≡◌, ◌∷◌}
use Rattle.std.proofs.Common.{◌∙◌}
use Rattle.lists.specs.Basics.{refl, sym, ap, ap₂, subst, ℕ, suc, eqb, Bool, true, false, cond, List, [], map, Option, none, some, inl, eq-eqb}
use Rattle.lists.specs.Basics.{ne_eqb, all, count, choose_by}
use Rattle.lists.specs.Members.{Mem, here, there}
use Rattle.model.specs.Types.{Key, Record, Entry, Transaction, Reading}
use Rattle.model.specs.Records.{line_of}
use Rattle.model.specs.Images.{Change}
use Rattle.model.specs.Writes.{Sheets, sheets_good}
use Rattle.model.specs.Results.{Call, returns}
use Rattle.model.specs.Histories.{Event, answer, taken, after, events_after, Legal}
use Rattle.model.specs.SequentialModel.{Model, first_model, overwritten, model_after, is_committed}
use Rattle.model.specs.RecoveryPass.{none_prepared}
use Rattle.model.specs.Turns.{Turn, turn_event, turn_after, expanded, LegalTurns}
use Rattle.model.specs.SerialOrder.{begun_checked, gets_position, placed_by, serial_order, placed_before, serial_line, Saw, Serializable}
use Rattle.recovery.specs.History.{first_inv, history_kept}
use Rattle.recovery.specs.Theorem.{model_of}
use Rattle.turns.specs.Reduction.{model_of_turns, Reduced, reduce}
use Rattle.serial.specs.Runs.{Placing, wrote, run_line, Sight, sight_in, sight_of}
use Rattle.serial.specs.Order.{EachStands, none_placed, one_more}
use Rattle.serial.specs.InDoubt.{Facts, facts, InDoubt}
use Rattle.serial.specs.Invariant.{placed_as, placings, Validated, Ordered, own_position}
use Rattle.serial.specs.Answers.{ReadHeld, told_of_lem}
use Rattle.serial.specs.Calls.{SoFar}
use Rattle.serial.specs.History.{history_keeps, nothing_so_far}

-- The order by numbers.

abbrev numbers : List Placing → List ℕ
numbers ps = map (λ (p : Placing). p.number) ps

placed_is : (t t' : Option Transaction) (ps : List Placing) → placed_by t t' (numbers ps) ≡ numbers (placed_as t t' ps)
placed_is (some t) (some t') ps =
    choose_by (λ (qs : List Placing). cond (gets_position t t') (t.number ∷ numbers ps) (numbers ps) ≡ numbers qs) (gets_position t t')
    (λ e. ap (λ (b : Bool). cond b (t.number ∷ numbers ps) (numbers ps)) e)
    (λ e. ap (λ (b : Bool). cond b (t.number ∷ numbers ps) (numbers ps)) e)
placed_is (some t) none ps = refl
placed_is none t' ps = refl

order_is : (es : List Event) → serial_order es ≡ numbers (placings es)
unfolding serial_order placings
order_is [] = refl
order_is (e ∷ es) = ap (placed_by (taken e) (returns e.answer)) (order_is es) ∙ placed_is (taken e) (returns e.answer) (placings es)

-- the serial run by pages
run_is : (rs : List Record) (m : Model) (k : Key) (ps : List Placing) → ((p : Placing) → Mem p ps → m.writes p.number k ≡ wrote k p)
    → serial_line rs m (numbers ps) k ≡ run_line (λ (n : ℕ). is_committed n m) (λ (j : Key). line_of j rs) ps k
unfolding serial_line run_line
run_is rs m k [] page = refl
run_is rs m k (p ∷ ps) page =
    ap₂ (λ (c : Option Change) (r : Record). cond (is_committed p.number m) (overwritten p.number c r) r)
    (page p here) (run_is rs m k ps (λ q n. page q (there n)))

-- those before a position, and what it has validated by them
record Preceded (first : Key → Record) (c : ℕ → Bool) (valid : Placing → Entry → Type 0) (ps : List Placing) (p : Placing) : Type 0 where
  pub earlier : List Placing
  pub sub : (q : Placing) → Mem q earlier → Mem q ps
  pub is : placed_before p.number (numbers ps) ≡ numbers earlier
  pub saw : (e : Entry) → Mem e p.entries → valid p e → sight_of e ≡ sight_in (run_line c first earlier e.key)

none_of : (n : ℕ) (ps : List Placing) → ((q : Placing) → Mem q ps → n ≡ q.number → ⊥) → count (eqb n) (numbers ps) ≡ 0
unfolding count
none_of n [] h = refl
none_of n (p ∷ ps) h = let e : eqb n p.number ≡ false = ne_eqb n p.number (h p here) in rw e (none_of n ps (λ q l. h q (there l)))

module _ {first line : Key → Record} {c : ℕ → Bool} {doubt : ℕ → Type 0} {valid : Placing → Entry → Type 0} where
  preceded : (ps : List Placing) → EachStands first line c doubt valid ps → (p : Placing) → Mem p ps → Preceded first c valid ps p
  unfolding placed_before
  preceded ps (one_more p xs f a i) q here =
      record {
        earlier = xs;
        sub = λ r n. there n;
        is = ap (λ (b : Bool). cond b (numbers xs) (placed_before p.number (numbers xs))) (eq-eqb p.number p.number refl);
        saw = f.saw;
      }
  preceded ps (one_more p xs f a i) q (there n) =
      let r = preceded xs i q n in
      record {
        earlier = r.earlier;
        sub = λ x l. there (r.sub x l);
        is = ap (λ (b : Bool). cond b (numbers xs) (placed_before q.number (numbers xs))) (ne_eqb q.number p.number (λ d. (a q n).other (sym d))) ∙ r.is;
        saw = r.saw;
      }
  preceded _ none_placed q x3 = elim x3 [ ]

  -- a number has one position
  one_of : (ps : List Placing) → EachStands first line c doubt valid ps → (p : Placing) → Mem p ps → count (eqb p.number) (numbers ps) ≡ 1
  unfolding count
  one_of ps (one_more p xs f a i) q here =
      let e : eqb p.number p.number ≡ true = eq-eqb p.number p.number refl in
      rw e (ap suc (none_of p.number xs (λ r n. (a r n).other)))
  one_of ps (one_more p xs f a i) q (there n) =
      let e : eqb q.number p.number ≡ false = ne_eqb q.number p.number (λ d. (a q n).other (sym d)) in
      rw e (one_of xs i q n)
  one_of _ none_placed q x3 = elim x3 [ ]

-- What is known at the end.
end_serializable : (rs : List Record) {s : Sheets} (es : List Event) (m : Model) → Facts s es m → SoFar (λ (k : Key). line_of k rs) s es m (placings es)
    → Serializable rs m es
end_serializable rs {s} es m f k =
    record {
      placed = λ n c. let x = o.placed n c in
          ap₂ (λ (i : ℕ) (ns : List ℕ). count (eqb i) ns) (sym x.number) (order_is es) ∙ one_of ps each x.position x.member;
      reads = λ t j now v t' n d c. saw t j v t' c (told_of_lem es es n k.told d);
      second_reads = λ t j now x v t' n d c. saw t j v t' c (told_of_lem es es n k.told d);
      writes = λ j. ap (λ (ns : List ℕ). serial_line rs m ns j) (order_is es) ∙ (run_is rs m j ps (λ p n. page p n j) ∙ o.consistent.lines j);
    }
  where
    ps : List Placing
    ps = placings es

    o : Ordered (λ (j : Key). line_of j rs) s es m ps
    o = k.ordered

    each : EachStands (λ (j : Key). line_of j rs) m.line (λ (n : ℕ). is_committed n m) (InDoubt s es) (Validated s es m.committed) ps
    each = o.consistent.each

    run : List Placing → Key → Record
    run qs j = run_line (λ (n : ℕ). is_committed n m) (λ (i : Key). line_of i rs) qs j

    page : (p : Placing) → Mem p ps → (j : Key) → m.writes p.number j ≡ wrote j p
    page p n j =
        let h = o.holder p n in
        subst (λ (q : Placing). m.writes q.number j ≡ wrote j q) h.same ((f.known h.state h.available).sets j)

    saw : (t : Transaction) (j : Key) (v : Reading) (t' : Transaction) → is_committed t.number m ≡ true → ReadHeld es t j v t'
        → Saw (serial_line rs m (placed_before t.number (serial_order es)) j) j v t'
    saw t j v t' c r =
        let x = o.placed t.number c in
        let p = x.position in
        let h = r.holds in
        let u = h.state in
        let y = h.seen in
        let b = preceded ps each p x.member in
        let same : u.number ≡ p.number = h.number ∙ (r.number ∙ sym x.number) in
        let held : Mem y.entry p.entries =
        subst (λ (q : Placing). Mem y.entry q.entries) (own_position f o p x.member u h.available same).0 y.member in
        let line : serial_line rs m (placed_before t.number (serial_order es)) j ≡ run b.earlier j =
        ap₂ (λ (n : ℕ) (ns : List ℕ). serial_line rs m (placed_before n ns) j) (sym x.number) (order_is es)
        ∙ (ap (λ (ns : List ℕ). serial_line rs m ns j) b.is ∙ run_is rs m j b.earlier (λ q n. page q (b.sub q n) j)) in
        let seen =
        sym y.first_read
        ∙ (b.saw y.entry held (inl (ap (λ (i : ℕ). is_committed i m) x.number ∙ c))
        ∙ (ap (λ (i : Key). sight_in (run b.earlier i)) y.key ∙ ap sight_in (sym line))) in
        record { answer = r.answer; first_read = ap (λ (z : Sight). z.image) seen; absence = ap (λ (z : Sight). z.absent) seen }

-- Over calls, and over turns, which count as the calls that they come to.

calls_serializable : (s : Sheets) → sheets_good s ≡ true → none_prepared s.lines ≡ true → (cs : List Call) → Legal answer after cs s []
    → all begun_checked (events_after answer after cs s []) ≡ true → Serializable s.lines (model_of cs s) (events_after answer after cs s [])
unfolding model_after placings
calls_serializable s g z cs legal checked =
    end_serializable s.lines (events_after answer after cs s []) (model_of cs s) (facts (history_kept cs s [] (first_model s.lines) (first_inv s g z) legal))
    (history_keeps cs s [] (first_model s.lines) (first_inv s g z) legal checked (nothing_so_far s))

-- a history of turns as one of calls
pub turns_reduced : (s : Sheets) → sheets_good s ≡ true → none_prepared s.lines ≡ true → (xs : List Turn) → LegalTurns turn_after turn_event xs s []
    → Reduced xs s [] [] (first_model s.lines)
unfolding model_after
turns_reduced s g z xs legal = reduce xs s [] [] (first_model s.lines) (first_inv s g z) (λ t a. a) refl legal

pub turns_serializable : (s : Sheets) → sheets_good s ≡ true → none_prepared s.lines ≡ true → (xs : List Turn) → LegalTurns turn_after turn_event xs s []
    → all begun_checked (events_after answer after (expanded xs s) s []) ≡ true
    → Serializable s.lines (model_of_turns xs s) (events_after answer after (expanded xs s) s [])
turns_serializable s g z xs legal checked =
    let r = turns_reduced s g z xs legal in
    subst (λ (m : Model). Serializable s.lines m (events_after answer after (expanded xs s) s [])) r.model
    (calls_serializable s g z (expanded xs s) r.legal checked)
