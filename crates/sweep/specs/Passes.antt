-- The keys of a sheet visited one after another: a visit keeps the keys, so that the key of a line is that of the sheet at first.
use Rattle.std.specs.Prelude.{◌≡◌, ◌+◌, ◌*◌, ◌/◌, ◌^◌, ◌≤◌, ◌<◌, ◌∷◌, ◌++◌, Result as Either}
use Rattle.lists.specs.Basics.{refl, sym, ap, ap₂, subst, ℕ, zero, suc, List, [], map, length, take, drop, get_or}
use Rattle.lists.specs.Basics.{length-map, drop_of_length-le, get_or-map, arith, add-one}
use Rattle.std.proofs.Common.{length-take-le, ◌∙◌}
use Rattle.lists.specs.Walks.{drop_here}
use Rattle.model.specs.Types.{Key, Record, Recovery}
use Rattle.model.specs.Layouts.{record_bytes}
use Rattle.model.specs.Records.{records, no_record}
use Rattle.model.specs.Spares.{filled_lines, front, record_lines}
use Rattle.model.specs.Writes.{Sheets, apply}
use Rattle.model.specs.Results.{visit}
use Rattle.model.specs.Histories.{written, after}
use Rattle.model.specs.ByteHistories.{Bytes, saying, Passing, after_on}
use Rattle.model.specs.Visitor.{visited_all, keys_on, swept}
use Rattle.sheet_laws.specs.ByIndex.{length-records}
use Rattle.sheet_laws.specs.Ends.{quotient}
use Rattle.sheet_laws.specs.Spared.{count-front}
use Rattle.model.specs.Calls.{result_of}
use Rattle.model.specs.ByteCalls.{sheets_of}
use Rattle.call_laws.specs.SingleUnit.{written-shifts}
use Rattle.call_laws.specs.Lines.{keys_after_lem}
use Rattle.call_laws.specs.ByIndex.{found-own}
use Rattle.call_laws.specs.Lifting.{passing_parts, bytes_stay_passing}
use Rattle.call_laws.specs.Accepted.{Outcome}
use Rattle.engine.specs.Fronts.{front-within, accepted_front, call_passed}
use Rattle.recover.specs.Recovering.{Standing}
use Rattle.answers.specs.Answers.{to_visited}

abbrev pub both : List ℕ → List ℕ → Bytes
both rs cs = record { records = rs; coordinator = cs }

abbrev pub key_at : List ℕ → ℕ → Key
key_at rs i = (get_or (records (record_lines rs)) i no_record).key

-- sheets that pass, whose spares begin at this byte
pub record Lined (b : Bytes) (end : ℕ) : Type 0 where
  pub passing : Passing b
  pub at : end ≡ filled_lines record_bytes b.records * record_bytes

length_keys : (b : Bytes) → Passing b → length (keys_on b) ≡ filled_lines record_bytes b.records
length_keys b h = length-map (records (record_lines b.records)) (λ (r : Record). r.key) ∙ count-front b.records (passing_parts b h).0

-- a line of sheets that pass may be visited where it stands
pub line_stands : (rs cs : List ℕ) (end i : ℕ) → Lined (both rs cs) end → i < end / record_bytes → Standing (take end rs) cs i
line_stands rs cs end i h l =
    let a = accepted_front rs cs h.passing end h.at in
    let n : length (take end rs) / record_bytes ≡ end / record_bytes = ap (λ (m : ℕ). m / record_bytes) (length-take-le end rs (front-within rs cs h.passing end h.at)) in
    record { accepted = a; index = found-own (records (take end rs)) i a.good.order (omega (arith, length-records (take end rs), n)) }

-- and its visit leaves what the definition says
pub line-visited : (rs cs : List ℕ) (end i now : ℕ) {answer : Either Recovery ℕ} {ls' cs' : List ℕ} → Lined (both rs cs) end → Outcome to_visited (result_of (visit (get_or (records (take end rs)) i no_record).key now) (sheets_of (take end rs) cs)) (take end rs) cs answer ls' cs' → both (ls' ++ drop end rs) cs' ≡ after_on (visit (key_at rs i) now) (both rs cs)
unfolding after_on front
line-visited rs cs end i now h o =
    let p = call_passed rs cs h.passing end h.at to_visited (visit (get_or (records (take end rs)) i no_record).key now) refl o in
    let k : (get_or (records (take end rs)) i no_record).key ≡ key_at rs i = ap (λ (n : ℕ). (get_or (records (take n rs)) i no_record).key) h.at in
    (λ j. record { records = p.sheet j; coordinator = p.decisions j }) ∙ ap (λ (x : Key). after_on (visit x now) (both rs cs)) k

-- sheets that pass, and that have these keys
pub record Kept (ks : List Key) (b : Bytes) : Type 0 where
  pub passing : Passing b
  pub keys : keys_on b ≡ ks

kept_visit : (k : Key) (now : ℕ) (ks : List Key) (b : Bytes) → now < 2 ^ 32 → Kept ks b → Kept ks (after_on (visit k now) b)
unfolding after apply
kept_visit k now ks b l h =
    let q = bytes_stay_passing (visit k now) b l h.passing in
    record {
      passing = q.1;
      keys =
          ap (λ (s : Sheets). map (λ (r : Record). r.key) s.lines) q.0
          ∙ (keys_after_lem (written (visit k now) (saying b)) (saying b).lines (written-shifts (visit k now) (saying b) refl) ∙ h.keys);
    }

visited_kept : (now : ℕ) (ks ls : List Key) (b : Bytes) → now < 2 ^ 32 → Kept ls b → Kept ls (visited_all now ks b)
unfolding visited_all
visited_kept now [] ls b l h = h
visited_kept now (k ∷ ks) ls b l h = visited_kept now ks ls (after_on (visit k now) b) l (kept_visit k now ls b l h)

visited-append : (now : ℕ) (ks ls : List Key) (b : Bytes) → visited_all now (ks ++ ls) b ≡ visited_all now ls (visited_all now ks b)
unfolding visited_all
visited-append now [] ls b = refl
visited-append now (k ∷ ks) ls b = visited-append now ks ls (after_on (visit k now) b)

-- A pass that has visited the keys before line i.
pub record VisitedTo (now : ℕ) (first b : Bytes) (i : ℕ) : Type 0 where
  pub reached : i ≤ length (keys_on first)
  pub kept : Kept (keys_on first) b
  pub rest : visited_all now (drop i (keys_on first)) b ≡ visited_all now (keys_on first) first

pub pass-first : (now : ℕ) (first : Bytes) → Passing first → VisitedTo now first first 0
pass-first now first h = record { reached = omega arith; kept = record { passing = h; keys = refl }; rest = refl }

-- the spares begin where they began
kept_end : (first b : Bytes) (end : ℕ) → Lined first end → Kept (keys_on first) b → end ≡ filled_lines record_bytes b.records * record_bytes
kept_end first b end h k =
    h.at
    ∙ ap (λ (n : ℕ). n * record_bytes) (sym (length_keys first h.passing) ∙ (ap length (sym k.keys) ∙ length_keys b k.passing))

pub still_lined : (first b : Bytes) (end : ℕ) → Lined first end → Kept (keys_on first) b → Lined b end
still_lined first b end h k = record { passing = k.passing; at = kept_end first b end h k }

keys_within : (first : Bytes) (end i : ℕ) → Lined first end → (i < end / record_bytes → i < length (keys_on first)) × (end / record_bytes ≤ i → length (keys_on first) ≤ i)
keys_within first end i h =
    let n : end / record_bytes ≡ length (keys_on first) = ap (λ (m : ℕ). m / record_bytes) h.at ∙ (quotient record_bytes (omega arith) (filled_lines record_bytes first.records) ∙ sym (length_keys first h.passing)) in
    (λ l. omega (arith, n, l), λ l. omega (arith, n, l))

pub pass_next : (now : ℕ) (first b c : Bytes) (end i : ℕ) → now < 2 ^ 32 → Lined first end → i < end / record_bytes → VisitedTo now first b i → c ≡ after_on (visit (key_at b.records i) now) b → VisitedTo now first c (i + 1)
unfolding visited_all
pass_next now first b c end i l h m v e =
    let n : i < length (keys_on first) = (keys_within first end i h).0 m in
    let k : key_at b.records i ≡ get_or (keys_on first) i no_record.key =
    sym (get_or-map (λ (r : Record). r.key) (records (record_lines b.records)) i no_record)
    ∙ ap (λ (ks : List Key). get_or ks i no_record.key) v.kept.keys in
    let d : drop i (keys_on first) ≡ key_at b.records i ∷ drop (i + 1) (keys_on first) =
    drop_here (keys_on first) i no_record.key (key_at b.records i) n k in
    subst (λ (x : Bytes). VisitedTo now first x (i + 1)) (sym e)
    (record {
      reached = omega arith;
      kept = kept_visit (key_at b.records i) now (keys_on first) b l v.kept;
      rest = ap (λ (ks : List Key). visited_all now ks b) (sym d) ∙ v.rest;
    })

pub pass_last : (now : ℕ) (first b : Bytes) (end i : ℕ) → Lined first end → end / record_bytes ≤ i → VisitedTo now first b i → b ≡ visited_all now (keys_on first) first
unfolding visited_all
pass_last now first b end i h m v =
    let n : length (keys_on first) ≤ i = (keys_within first end i h).1 m in
    ap (λ (ks : List Key). visited_all now ks b) (sym (drop_of_length-le (keys_on first) n)) ∙ v.rest

-- n passes, each over the keys of the sheets at first
unfoldable pub passed : ℕ → ℕ → Bytes → Bytes
passed now zero first = first
passed now (suc n) first = visited_all now (keys_on first) (passed now n first)

-- A sweep that has made n passes.
pub record PassedTo (now : ℕ) (first b : Bytes) (n : ℕ) : Type 0 where
  pub reached : n ≤ 2
  pub kept : Kept (keys_on first) b
  pub done : b ≡ passed now n first

pub sweep_first : (now : ℕ) (first : Bytes) → Passing first → PassedTo now first first 0
unfolding passed
sweep_first now first h = record { reached = omega arith; kept = record { passing = h; keys = refl }; done = refl }

pub sweep_next : (now : ℕ) (first b c : Bytes) (n : ℕ) → now < 2 ^ 32 → n < 2 → PassedTo now first b n → c ≡ visited_all now (keys_on b) b → PassedTo now first c (n + 1)
unfolding passed
sweep_next now first b c n l m v e =
    record {
      reached = omega arith;
      kept = subst (Kept (keys_on first)) (sym e) (visited_kept now (keys_on b) (keys_on first) b l v.kept);
      done = e ∙ (ap₂ (visited_all now) v.kept.keys v.done ∙ ap (λ (i : ℕ). passed now i first) (sym (add-one n)));
    }

-- "all lines in order, then all again"
pub sweep_last : (now : ℕ) (first b : Bytes) (n : ℕ) → 2 ≤ n → PassedTo now first b n → b ≡ swept now first
unfolding passed swept
sweep_last now first b n m v =
    let p : n ≤ 2 = v.reached in
    let e : n ≡ 2 = omega arith in
    v.done
    ∙ (ap (λ (i : ℕ). passed now i first) e ∙ sym (visited-append now (keys_on first) (keys_on first) first))
