-- The lines in turn. Lines that pass are lines of their numbers whose decisions the table has, and such lines pass: line by line, each ending
-- in the LF with which the next begins. The code's loop counts the numbers' columns up beside it.
use Rattle.std.specs.Prelude.{◌≡◌, ◌+◌, ◌-◌, ◌*◌, ◌≤◌, ◌<◌, ◌&&◌, ◌∷◌}
use Rattle.std.proofs.Common.{◌∙◌}
use Rattle.lists.specs.Basics.{refl, sym, ap, ap₂, ℕ, zero, suc, eqb, Bool, true, and_assoc, and-true, List, []}
use Rattle.lists.specs.Basics.{length, take, drop, get_or, length-drop, drop-drop, take_all, get_or-take, get_or-drop, arith, add-one, eqb-true, eq-eqb, all, pieces}
use Rattle.lists.specs.Basics.{eq_list, eq_list-true, eq_list_refl, and_fst, and_snd, and_both}
use Rattle.lists.specs.All.{all_at}
use Rattle.lists.specs.Pieces.{take-drop-take}
use Rattle.line_bytes.specs.Loads.{loaded}
use Rattle.model.specs.Types.{Decision, Undecided}
use Rattle.model.specs.Layouts.{line_layout, coordinator_bytes, line_end}
use Rattle.model.specs.Lines.{line_set, row_of}
use Rattle.model.specs.Coordinator.{decision_in, numbered}
use Rattle.sheet_laws.specs.Coordinator.{decision_text, decision_written_read, decision_read_written, decision_text-set}
use Rattle.coordinator_check.specs.Numbers.{columns, following, columns_next}
use Rattle.coordinator_check.specs.Lines.{Bytes, table, told, back_of, word_for, line_made, lf_text, lf_text-length, lf_text_ends, lf_text_back, decision_for}
use Rattle.coordinator_check.specs.Lines.{chosen, line_made_lem}

-- the n lines after line k pass, where r begins with the LF of line k
unfoldable pub lines_made : (words : List ℕ) (k n : ℕ) (r : List ℕ) → Bool
lines_made words k zero r = true
lines_made words k (suc n) r = line_made (columns (suc k)) words r && lines_made words (suc k) n (drop coordinator_bytes r)

-- Lines numbered from k on, each with a decision that passes a test.
pub record Reads (P : Decision → Bool) (k : ℕ) (ls : List (List ℕ)) : Type 0 where
  pub readable : all (line_set line_layout) ls ≡ true
  pub in_turn : numbered k ls ≡ true
  pub decided : all (λ (l : List ℕ). P (decision_in l)) ls ≡ true

-- one line more, with the text of number k
reads_more : (P : Decision → Bool) (k : ℕ) (d : Decision) (line : List ℕ) (ls : List (List ℕ)) → 1 ≤ k → k ≤ 999 → line ≡ decision_text k d
    → P d ≡ true → Reads P (suc k) ls → Reads P k (line ∷ ls)
unfolding all numbered
reads_more P k d line ls l m e p r =
    let t = decision_read_written k d l m in
    rw e
    (record {
      readable = and_both (decision_text-set k d l m) r.readable;
      in_turn = and_both (eq-eqb (get_or (row_of line_layout (decision_text k d)) 0 0) k (ap (λ (v : List ℕ). get_or v 0 0) t.0)) r.in_turn;
      decided = and_both (ap P t.1 ∙ p) r.decided;
    })

-- the first line has the text of number k, and the others are numbered from k + 1 on
record First (P : Decision → Bool) (k : ℕ) (line : List ℕ) (ls : List (List ℕ)) : Type 0 where
  same : decision_text k (decision_in line) ≡ line
  allowed : P (decision_in line) ≡ true
  others : Reads P (suc k) ls

reads_first : (P : Decision → Bool) (k : ℕ) (line : List ℕ) (ls : List (List ℕ)) → Reads P k (line ∷ ls) → First P k line ls
unfolding all numbered
reads_first P k line ls h =
    let n = eqb (get_or (row_of line_layout line) 0 0) k in
    let p = all (λ (l : List ℕ). P (decision_in l)) ls in
    record {
      same =
          decision_written_read k line (and_fst (line_set line_layout line) (all (line_set line_layout) ls) h.readable)
          (eqb-true (get_or (row_of line_layout line) 0 0) k (and_fst n (numbered (suc k) ls) h.in_turn));
      allowed = and_fst (P (decision_in line)) p h.decided;
      others =
          record {
            readable = and_snd (line_set line_layout line) (all (line_set line_layout) ls) h.readable;
            in_turn = and_snd n (numbered (suc k) ls) h.in_turn;
            decided = and_snd (P (decision_in line)) p h.decided;
          };
    }

-- what follows the first line and its LF
bytes_after_lem : (r : List ℕ) → Bytes r → Bytes (drop coordinator_bytes r)
bytes_after_lem r f i = rw get_or-drop (f (coordinator_bytes + i))

line_after_lem : (r : List ℕ) → drop coordinator_bytes (drop 1 r) ≡ drop 1 (drop coordinator_bytes r)
line_after_lem r = drop-drop coordinator_bytes 1 r ∙ sym (drop-drop 1 coordinator_bytes r)

module _ (a b c d : Decision) (P : Decision → Bool) where
  -- lines that pass are lines of their numbers, each with a decision of the table
  pub made_read : all P (a ∷ b ∷ c ∷ d ∷ []) ≡ true → (k n : ℕ) (r : List ℕ) → Bytes r → n * coordinator_bytes + 1 ≤ length r → k + n ≤ 999
      → lines_made (table a b c d) k n r ≡ true → Reads P (suc k) (pieces coordinator_bytes n (drop 1 r))
  unfolding lines_made pieces
  made_read p k zero r f l m h = unfold all numbered in record { readable = refl; in_turn = refl; decided = refl }
  made_read p k (suc n) r f l m h =
      let e = chosen a b c d r in
      let o = line_made (columns (suc k)) (table a b c d) r in
      let rest = lines_made (table a b c d) (suc k) n (drop coordinator_bytes r) in
      let q : take 16 r ≡ lf_text (suc k) e =
      eq_list-true (take 16 r) (lf_text (suc k) e) (sym (line_made_lem a b c d (suc k) r f (omega arith)) ∙ and_fst o rest h) in
      let t : take coordinator_bytes (drop 1 r) ≡ decision_text (suc k) e =
      sym (take-drop-take coordinator_bytes 1 16 r (omega arith))
      ∙ (ap (λ (s : List ℕ). take coordinator_bytes (drop 1 s)) q ∙ take_all coordinator_bytes (decision_text (suc k) e) (omega (arith, lf_text-length (suc k) e))) in
      let u : P e ≡ true = all_at P (a ∷ b ∷ c ∷ d ∷ []) Undecided (told (loaded (take 8 (drop 8 r)))) p (omega arith) in
      reads_more P (suc k) e (take coordinator_bytes (drop 1 r)) (pieces coordinator_bytes n (drop coordinator_bytes (drop 1 r))) (omega arith) (omega arith) t u
      (rw (line_after_lem r)
      (made_read p (suc k) n (drop coordinator_bytes r) (bytes_after_lem r f) (simp length-drop (omega arith)) (omega arith) (and_snd o rest h)))

  -- and such lines pass, if each decision that passes the test stands in the table where its word tells; the last of them ends in LF
  pub read_made : ((e : Decision) → P e ≡ true → decision_for a b c d (told (back_of (word_for e))) ≡ e) → (k n : ℕ) (r : List ℕ) → Bytes r
      → n * coordinator_bytes + 1 ≤ length r → k + n ≤ 999 → get_or r 0 0 ≡ 10 → Reads P (suc k) (pieces coordinator_bytes n (drop 1 r))
      → (lines_made (table a b c d) k n r ≡ true) × (get_or r (n * coordinator_bytes) 0 ≡ 10)
  unfolding lines_made pieces
  read_made tells k zero r f l m z h = (refl, z)
  read_made tells k (suc n) [] f l m z h = absurd (omega arith)
  read_made tells k (suc n) (x ∷ s) f l m z h =
      let r = x ∷ s in
      let t = reads_first P (suc k) (take coordinator_bytes s) (pieces coordinator_bytes n (drop coordinator_bytes s)) h in
      let e = decision_in (take coordinator_bytes s) in
      let q : take 16 r ≡ lf_text (suc k) e = ap₂ ◌∷◌ z (sym t.same) in
      let v : loaded (take 8 (drop 8 r)) ≡ back_of (word_for e) =
      ap loaded (sym (take-drop-take 8 8 16 r (omega arith)) ∙ ap (λ (i : List ℕ). take 8 (drop 8 i)) q) ∙ lf_text_back (suc k) e in
      let u : chosen a b c d r ≡ e = ap (λ (i : ℕ). decision_for a b c d (told i)) v ∙ tells e t.allowed in
      let made : line_made (columns (suc k)) (table a b c d) r ≡ true =
      line_made_lem a b c d (suc k) r f (omega arith)
      ∙ ap₂ (λ (i : List ℕ) (y : Decision). eq_list i (lf_text (suc k) y)) q u
      ∙ eq_list_refl (lf_text (suc k) e) in
      let y : get_or (drop coordinator_bytes r) 0 0 ≡ 10 =
      get_or-drop coordinator_bytes r 0 0
      ∙ (sym (get_or-take 16 r coordinator_bytes 0 (omega arith)) ∙ (ap (λ (i : List ℕ). get_or i coordinator_bytes 0) q ∙ lf_text_ends (suc k) e)) in
      let rest = read_made tells (suc k) n (drop coordinator_bytes r) (bytes_after_lem r f) (simp length-drop (omega arith)) (omega arith) y
      (rw (line_after_lem r) at t.others) in
      let j : coordinator_bytes + n * coordinator_bytes ≡ suc n * coordinator_bytes = omega arith in
      (and_both made rest.0, ap (λ (i : ℕ). get_or r i 0) (sym j) ∙ (sym (get_or-drop coordinator_bytes r (n * coordinator_bytes) 0) ∙ rest.1))

-- The code's loop.

-- what it needs to judge the lines after number `after` up to number `to`
pub record Ready (s : List ℕ) (after to before : ℕ) : Type 0 where
  pub order : after ≤ to
  pub few : to ≤ 999
  pub long : to * coordinator_bytes + coordinator_bytes ≤ length s
  pub counted : before ≡ columns after

-- How far it has come: the lines up to k, whose columns are `number`, are good, or one is not.
pub record JudgedTo (words s : List ℕ) (after to k number : ℕ) (good : Bool) : Type 0 where
  pub reached : k ≤ to
  pub counted : number ≡ columns k
  pub left : (good && lines_made words k (to - k) (drop (k * coordinator_bytes + line_end) s)) ≡ lines_made words after (to - after) (drop (after * coordinator_bytes + line_end) s)

pub judged-first : (words s : List ℕ) (after to before : ℕ) → Ready s after to before → JudgedTo words s after to after before true
judged-first words s after to before t = record { reached = t.order; counted = t.counted; left = refl }

pub judged_next : (words s : List ℕ) (after to k number next : ℕ) (good made : Bool) → k < to → to ≤ 999 → next ≡ following number
    → made ≡ line_made next words (drop (k * coordinator_bytes + line_end) s) → JudgedTo words s after to k number good
    → JudgedTo words s after to (k + 1) next (good && made)
unfolding lines_made
judged_next words s after to k number next good made l m e q t =
    let r = drop (k * coordinator_bytes + line_end) s in
    let n : to - k ≡ suc (to - (k + 1)) = omega arith in
    let c : next ≡ columns (suc k) = e ∙ (ap following t.counted ∙ columns_next k (omega arith)) in
    let f : k * coordinator_bytes + line_end + coordinator_bytes ≡ (k + 1) * coordinator_bytes + line_end = omega arith in
    let d : drop coordinator_bytes r ≡ drop ((k + 1) * coordinator_bytes + line_end) s = drop-drop coordinator_bytes (k * coordinator_bytes + line_end) s ∙ ap (λ (i : ℕ). drop i s) f in
    let o : lines_made words k (to - k) r ≡ (made && lines_made words (k + 1) (to - (k + 1)) (drop ((k + 1) * coordinator_bytes + line_end) s)) =
    ap (λ (i : ℕ). lines_made words k i r) n
    ∙ ap₂ ◌&&◌ (ap (λ (i : ℕ). line_made i words r) (sym c) ∙ sym q)
    (ap₂ (λ (i : ℕ) (u : List ℕ). lines_made words i (to - (k + 1)) u) (sym (add-one k)) d) in
    record {
      reached = omega arith;
      counted = c ∙ ap columns (sym (add-one k));
      left = and_assoc good made _ ∙ (ap (λ (b : Bool). good && b) (sym o) ∙ t.left);
    }

pub judged_last : (words s : List ℕ) (after to k number : ℕ) (good : Bool) → to ≤ k → JudgedTo words s after to k number good
    → good ≡ lines_made words after (to - after) (drop (after * coordinator_bytes + line_end) s)
unfolding lines_made
judged_last words s after to k number good l t =
    let z : to - k ≡ 0 = omega arith in
    sym (and-true good) ∙ (rw z at t.left)
