-- A close under way in bytes: what each turn of the code owes, and what the loop keeps. A turn that goes on is a step, whose bytes say the sheets after its
-- write; what was found once of the entries stays true, since a step changes phase, place and verdict only, and no write moves a line.
use Rattle.std.specs.Prelude.{◌≡◌, ◌+◌, ◌-◌, ◌^◌, ◌≤◌, ◌<◌, ◌&&◌, ◌||◌}
use Rattle.std.proofs.Common.{◌∙◌}
use Rattle.lists.specs.Basics.{refl, sym, ap, ap₂, subst, ℕ, suc, eqb, Bool, true, false, cond, or-true, List}
use Rattle.lists.specs.Basics.{get_or, arith, ne_eqb}
use mir.Val.{Val}
use denote.Laws.{Is}
use denote.Struct.Declared.{row}
use Rattle.types.specs.contracts.Transaction.{the_type}
use Rattle.model.specs.Types.{Record, Transaction}
use Rattle.model.specs.Records.{records, records_text}
use Rattle.model.specs.Coordinator.{Letter, coordinator_of, coordinator_text}
use Rattle.model.specs.Refusals.{refusal_of}
use Rattle.model.specs.Transactions.{done_phase, held, puts, moved}
use Rattle.model.specs.Groups.{group_count}
use Rattle.model.specs.Writes.{Sheets, Write, line_after, apply}
use Rattle.model.specs.WellFormed.{well_formed}
use Rattle.model.specs.Steps.{units_of, step}
use Rattle.model.specs.Closing.{Run, step_writes, stops, goes_on, turn, closing, starting, most_steps, close_conditions}
use Rattle.model.specs.ByteCalls.{sheets_of}
use Rattle.sheet_laws.specs.Records.{sheet_written_read}
use Rattle.sheet_laws.specs.Coordinator.{coordinator_written_read}
use Rattle.call_laws.specs.Lines.{shifts, line_key, lines_mapped}
use Rattle.call_laws.specs.SingleUnit.{unit_shifts, step_single}
use Rattle.call_laws.specs.Transactions.{well_formed-parts}
use Rattle.call_laws.specs.Keeping.{units_kept}
use Rattle.call_laws.specs.Moved.{step-leaves}
use Rattle.closing_laws.specs.Steps.{Going, Sound, starts_sound, may_go, sound_next}
use Rattle.call_laws.specs.Lifting.{LinesFit, lines_good, lines-encoded}
use Rattle.transactions.specs.Held.{entry_at, has_room_lem}
use Rattle.put_groups.specs.Groups.{in_group}
use Rattle.put_groups.specs.GroupsIn.{in_group_at}
use Rattle.held_lines.specs.declared.Located.{Located}
use Rattle.held_lines.specs.Located.{Indexed, line_index, located_in, indexed_all, indexed_kept, place_few}
use Rattle.steps.specs.Ready.{Ready}
use Rattle.steps.specs.Stepped.{Stepped}
use Rattle.closing.specs.declared.Ran.{Ran}

-- What was found of a transaction's entries: their lines, how many groups there are, and which is each one's, whatever place the transaction has come to.
pub record Placed (s : Sheets) (t : Transaction) (l : Located) : Type 0 where
  pub at : (i : ℕ) → i < t.count → get_or l.indices i 0 ≡ line_index (entry_at t i).key s.lines
  pub groups : l.groups ≡ group_count (units_of s) (puts t)
  pub own : (p : ℕ) → p < 8 → (i : ℕ) → i < t.count → eqb (get_or l.of i 0) p ≡ in_group (units_of s) t p (entry_at t i)

-- neither phase nor place nor verdict counts
placed-moved : (s : Sheets) (t : Transaction) (l : Located) (phase place verdict : ℕ) → Placed s t l → Placed s (moved phase place verdict t) l
unfolding puts held
placed-moved s t l phase place verdict h = record { at = h.at; groups = h.groups; own = h.own }

placed-step : (s z : Sheets) (t : Transaction) (l : Located) (now : ℕ) → Placed z t l → Placed z (step t now s).transaction l
placed-step s z t l now h =
    let u = (step t now s).transaction in
    let e : moved 0 0 0 u ≡ moved 0 0 0 t = step-leaves (λ (x : Transaction). moved 0 0 0 x) t (λ p q v. refl) s now in
    placed-moved z (moved 0 0 0 u) l u.phase u.place u.verdict (subst (λ (x : Transaction). Placed z x l) (sym e) (placed-moved z t l 0 0 0 h))

placed-written : (w : Write) (s : Sheets) (t : Transaction) (l : Located) → shifts w ≡ false → Placed s t l → Placed (apply w s) t l
unfolding apply
placed-written w s t l calm h =
    let us : units_of s ≡ units_of (apply w s) = sym (units_kept w s.coordinator) in
    record {
      at = (subst (λ (ls : List Record). Indexed ls t l.indices t.count) (sym (lines_mapped w s.lines calm)) (indexed_kept (line_after w) (line_key w) s.lines t l.indices t.count (record { at = h.at }))).at;
      groups = h.groups ∙ ap (λ (x : List Letter). group_count x (puts t)) us;
      own = λ p m i k. h.own p m i k ∙ ap (λ (x : List Letter). in_group x t p (entry_at t i)) us;
    }

-- the close under way that the code holds, with the sheets that its bytes say
abbrev pub running : Ran → List ℕ → List ℕ → Run
running x rs cs = record { transaction = x.transaction; sheets = sheets_of rs cs; left = x.left; writes = x.writes }

-- what a turn asks for; writes made and writes left are the limit together, so that counting one more never overflows
pub record Sure (x : Ran) (rs cs : List ℕ) (l : Located) : Type 0 where
  pub fit : LinesFit rs cs
  pub formed : well_formed (sheets_of rs cs) x.transaction ≡ true
  pub placed : Placed (sheets_of rs cs) x.transaction l
  pub going : Going x.transaction (sheets_of rs cs)
  pub counted : x.writes + x.left < 2 ^ 32

-- a close that isn't refused begins so
pub starts_sure : (t : Transaction) (rs cs : List ℕ) {vs : List Val} → Is (row the_type) t vs
    → (l : Located) → l ≡ located_in (records rs) (coordinator_of cs).units t → LinesFit rs cs
    → refusal_of (close_conditions t (sheets_of rs cs)) ≡ 0 → (limit : ℕ) → limit < 2 ^ 32
    → Sure (record { transaction = t; left = limit; writes = 0 }) rs cs l
starts_sure t rs cs p l e h z limit m =
    let s = sheets_of rs cs in
    let k : Sound (starting t limit s) = starts_sound t limit s (lines_good rs cs h) z in
    let q = well_formed-parts s t k.formed in
    record {
      fit = h;
      formed = k.formed;
      placed =
          subst (λ (x : Located). Placed s t x) (sym e)
          (record {
            at = (indexed_all (records rs) t q.0.few).at;
            groups = refl;
            own = λ place n i k. in_group_at (units_of s) t (has_room_lem t p q.0.few) i 0 place k n;
          });
      going = k.going;
      counted = omega arith;
    }

-- what a step asks for
pub sure_ready : (x : Ran) (rs cs : List ℕ) (l : Located) → Sure x rs cs l → Ready rs cs x.transaction l
sure_ready x rs cs l k =
    let t = x.transaction in
    let q = well_formed-parts (sheets_of rs cs) t k.formed in
    record {
      fit = k.fit;
      formed = k.formed;
      indexed = record { at = k.placed.at };
      grouped =
          record { count = k.placed.groups; own = k.placed.own t.place (place_few (coordinator_of cs).units t q.0.few q.1.place) };
    }

-- a turn of the model's close, and all for the next
pub record Turned (clock : ℕ) (x : Ran) (rs cs : List ℕ) (y : Ran) (rs' cs' : List ℕ) (l : Located) : Type 0 where
  pub made : running y rs' cs' ≡ turn clock (running x rs cs)
  pub sure : Sure y rs' cs' l

-- what a close leaves: the transaction, the report, and the text of both sheets
pub record Closed (clock : ℕ) (t : Transaction) (limit : ℕ) (rs cs : List ℕ) (y : Ran) (rs' cs' : List ℕ) : Type 0 where
  pub made : running y rs' cs' ≡ closing most_steps clock (starting t limit (sheets_of rs cs))
  pub records : rs' ≡ records_text (closing most_steps clock (starting t limit (sheets_of rs cs))).sheets.lines
  pub coordinator : cs' ≡ coordinator_text (closing most_steps clock (starting t limit (sheets_of rs cs))).sheets.coordinator

-- One turn, by the tests of the code.
module _ (clock : ℕ) (x : Ran) (rs cs : List ℕ) (l : Located) (k : Sure x rs cs l) where
  abbrev X : Run
  X = running x rs cs

  abbrev t : Transaction
  t = x.transaction

  abbrev s : Sheets
  s = sheets_of rs cs

  stopped : stops clock X ≡ true → Turned clock x rs cs x rs cs l
  unfolding turn
  stopped q = record { made = sym (ap (λ (b : Bool). cond b X (goes_on clock X)) q); sure = k }

  pub turned_done : t.phase ≡ done_phase → Turned clock x rs cs x rs cs l
  turned_done e = stopped (ap (λ (p : ℕ). eqb p done_phase || step_writes clock X && eqb x.left 0) e)

  pub turned_spent : step_writes clock X ≡ true → x.left ≡ 0 → Turned clock x rs cs x rs cs l
  turned_spent w z =
      stopped (ap₂ (λ (a b : Bool). eqb t.phase done_phase || a && b) w (ap (λ (n : ℕ). eqb n 0) z) ∙ or-true (eqb t.phase done_phase))

  sound : Sound X
  sound = record { good = lines_good rs cs k.fit; formed = k.formed; going = k.going }

  -- a step was made and counted
  module _ (fits : clock < 2 ^ 32) (y : Ran) (rs' cs' : List ℕ) (st : Stepped s (step t clock s) y.transaction rs' cs') where
    goes : stops clock X ≡ false → y.left ≡ cond (step_writes clock X) (x.left - 1) x.left
        → y.writes ≡ cond (step_writes clock X) (x.writes + 1) x.writes → y.writes + y.left < 2 ^ 32 → Turned clock x rs cs y rs' cs' l
    unfolding turn apply
    goes q m w n =
        let next : Sound (goes_on clock X) = sound_next clock fits X sound (may_go clock X k.going q) in
        let s₁ = apply (step t clock s).write s in
        let e = lines-encoded s₁ next.good in
        let says : sheets_of rs' cs' ≡ s₁ =
        λ i. record { lines = (ap records st.records ∙ e.lines) i; size = 500; coordinator = (ap coordinator_of st.coordinator ∙ e.decisions) i } in
        let u : y.transaction ≡ (step t clock s).transaction = st.transaction in
        record {
          made = (λ i. record { transaction = u i; sheets = says i; left = m i; writes = w i }) ∙ sym (ap (λ (c : Bool). cond c X (goes_on clock X)) q);
          sure =
              record {
                fit = subst (λ (x : List ℕ). LinesFit x cs') (sym st.records) (subst (LinesFit (records_text s₁.lines)) (sym st.coordinator) e.fit);
                formed = ap₂ well_formed says u ∙ next.formed;
                placed =
                    subst (λ (z : Transaction). Placed (sheets_of rs' cs') z l) (sym u)
                    (subst (λ (z : Sheets). Placed z (step t clock s).transaction l) (sym says)
                    (placed-step s s₁ t l clock (placed-written (step t clock s).write s t l (unit_shifts (step_single t clock s)) k.placed)));
                going =
                    subst (λ (z : Transaction). Going z (sheets_of rs' cs')) (sym u)
                    (subst (λ (z : Sheets). Going (step t clock s).transaction z) (sym says) next.going);
                counted = n;
              };
        }

    module _ (d : t.phase ≡ done_phase → ⊥) where
      pub turned_quiet : step_writes clock X ≡ false → y.left ≡ x.left → y.writes ≡ x.writes → Turned clock x rs cs y rs' cs' l
      turned_quiet f m w =
          let c = k.counted in
          goes (ap₂ (λ (a b : Bool). a || b && eqb x.left 0) (ne_eqb t.phase done_phase d) f)
          (m ∙ sym (ap (λ (b : Bool). cond b (x.left - 1) x.left) f))
          (w ∙ sym (ap (λ (b : Bool). cond b (x.writes + 1) x.writes) f)) (omega (arith, c, m, w))

      pub turned_writes : step_writes clock X ≡ true → (x.left ≡ 0 → ⊥) → y.left ≡ x.left - 1 → y.writes ≡ x.writes + 1 → Turned clock x rs cs y rs' cs' l
      turned_writes f z m w =
          let c = k.counted in
          goes (ap₂ (λ (a b : Bool). a || b && eqb x.left 0) (ne_eqb t.phase done_phase d) f ∙ ne_eqb x.left 0 z)
          (m ∙ sym (ap (λ (b : Bool). cond b (x.left - 1) x.left) f))
          (w ∙ sym (ap (λ (b : Bool). cond b (x.writes + 1) x.writes) f)) (omega (arith, c, m, w, z))

-- The loop: the turns from here on come to the whole.
pub record Underway (clock : ℕ) (whole : Run) (l : Located) (x : Ran) (rs cs : List ℕ) (i : ℕ) : Type 0 where
  pub sure : Sure x rs cs l
  pub rest : closing (most_steps - i) clock (running x rs cs) ≡ whole

pub underway_next : (clock : ℕ) (whole : Run) (l : Located) (x : Ran) (rs cs : List ℕ) (i : ℕ) → i < most_steps
    → Underway clock whole l x rs cs i → (y : Ran) (rs' cs' : List ℕ) → Turned clock x rs cs y rs' cs' l → Underway clock whole l y rs' cs' (i + 1)
unfolding closing
underway_next clock whole l x rs cs i m u y rs' cs' h =
    let e : most_steps - i ≡ suc (most_steps - (i + 1)) = omega arith in
    record {
      sure = h.sure;
      rest = ap (closing (most_steps - (i + 1)) clock) h.made ∙ (ap (λ (n : ℕ). closing n clock (running x rs cs)) (sym e) ∙ u.rest);
    }

pub underway_last : (clock : ℕ) (t : Transaction) (limit : ℕ) (rs cs : List ℕ) (l : Located) (y : Ran) (rs' cs' : List ℕ) (i : ℕ) → most_steps ≤ i
    → Underway clock (closing most_steps clock (starting t limit (sheets_of rs cs))) l y rs' cs' i → Closed clock t limit rs cs y rs' cs'
unfolding closing
underway_last clock t limit rs cs l y rs' cs' i m u =
    let e : most_steps - i ≡ 0 = omega arith in
    let q : running y rs' cs' ≡ closing most_steps clock (starting t limit (sheets_of rs cs)) =
    ap (λ (n : ℕ). closing n clock (running y rs' cs')) (sym e) ∙ u.rest in
    let p = u.sure.fit in
    record {
      made = q;
      records = sym (sheet_written_read rs' p.0) ∙ ap (λ (x : Run). records_text x.sheets.lines) q;
      coordinator = sym (coordinator_written_read cs' p.1.0) ∙ ap (λ (x : Run). coordinator_text x.sheets.coordinator) q;
    }
