-- Clock readings modulo 2^32, and whether a number has expired, line by line.
use Rattle.std.specs.Prelude.{◌≢◌, ◌≡◌, ◌+◌, ◌/◌, ◌%◌, ◌^◌, ◌≤◌, ◌<◌, ◌&&◌, ◌||◌}
use Rattle.std.proofs.Common.{◌∙◌}
use Rattle.lists.specs.Basics.{refl, sym, ap, ℕ, Bool, true, false, not, and-false, List, length, drop}
use Rattle.lists.specs.Basics.{get_or, arith, eq-eqb, ne_eqb, all}
use Rattle.lists.specs.Walks.{LeftFrom, left-first, left_here, left_last}
use Rattle.model.specs.Types.{Record}
use Rattle.model.specs.Layouts.{record_bytes}
use Rattle.model.specs.Records.{no_record, records}
use Rattle.model.specs.Images.{is_prepared, prepared_by, elapsed, line_expired}
use Rattle.model.specs.Visits.{number_expired}
use Rattle.sheet_laws.specs.ByIndex.{length-records}

-- what added to the earlier reading wraps to the later one is what has elapsed
pub elapsed_is : (r now clock : ℕ) → r < 2 ^ 32 → clock < 2 ^ 32 → (r + clock) % 2 ^ 32 ≡ now → r ≡ elapsed now clock
unfolding elapsed
elapsed_is r now clock l m e = omega arith

-- what is asked of each line for a number to count as expired
abbrev pub line_allows : ℕ → ℕ → Record → Bool
line_allows now n r = not (prepared_by n r) || line_expired now r

-- a line that isn't prepared by the number allows it, one that is if it has expired
pub allows_still : (now n : ℕ) (r : Record) → is_prepared r ≡ false → true ≡ line_allows now n r
unfolding prepared_by
allows_still now n r p = rw p

pub allows_other : (now n : ℕ) (r : Record) → (r.image.txid ≢ n) → true ≡ line_allows now n r
unfolding prepared_by
allows_other now n r d = rw (ne_eqb r.image.txid n d, and-false (is_prepared r))

pub allows_own : (now n : ℕ) (r : Record) → is_prepared r ≡ true → r.image.txid ≡ n → line_expired now r ≡ line_allows now n r
unfolding prepared_by
allows_own now n r p e = rw (p, eq-eqb r.image.txid n e)

-- Lines before i allow it, so that those from i on decide as all do.
abbrev pub AllowedTo : (now n : ℕ) (rs : List ℕ) (i : ℕ) → Type 0
AllowedTo now n rs i = LeftFrom (records rs) (all (line_allows now n)) (number_expired now (records rs) n) i

module _ (now n : ℕ) (rs : List ℕ) where
  pub allow_first : AllowedTo now n rs 0
  unfolding number_expired
  allow_first = left-first (records rs) (all (line_allows now n))

  -- line i and those after it
  allow_here : (i : ℕ) → i < length rs / record_bytes → AllowedTo now n rs i
      → (line_allows now n (get_or (records rs) i no_record) && all (line_allows now n) (drop (i + 1) (records rs))) ≡ number_expired now (records rs) n
  unfolding all
  allow_here i l t =
      left_here (records rs) (all (line_allows now n)) no_record (get_or (records rs) i no_record) (number_expired now (records rs) n) i (omega (arith, length-records rs)) refl t

  -- a line that doesn't allow it decides
  pub allow_not : (i : ℕ) → i < length rs / record_bytes → AllowedTo now n rs i → line_allows now n (get_or (records rs) i no_record) ≡ false → false ≡ number_expired now (records rs) n
  allow_not i l t e = ap (λ (b : Bool). b && all (line_allows now n) (drop (i + 1) (records rs))) (sym e) ∙ allow_here i l t

  pub allow_next : (i : ℕ) → i < length rs / record_bytes → AllowedTo now n rs i → line_allows now n (get_or (records rs) i no_record) ≡ true → AllowedTo now n rs (i + 1)
  allow_next i l t e =
      record {
        reached = omega (arith, length-records rs);
        rest = ap (λ (b : Bool). b && all (line_allows now n) (drop (i + 1) (records rs))) (sym e) ∙ allow_here i l t;
      }

  pub allow_last : (i : ℕ) → length rs / record_bytes ≤ i → AllowedTo now n rs i → true ≡ number_expired now (records rs) n
  unfolding all
  allow_last i l t = left_last (records rs) (all (line_allows now n)) (number_expired now (records rs) n) i (omega (arith, length-records rs)) t
