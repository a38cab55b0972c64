-- Keys in order: keys compared as numbers are equal as keys, and on a sheet in order a later line has a higher key.
use Rattle.std.specs.Prelude.{◌≡◌, ◌∷◌}
use Rattle.std.proofs.Common.{◌∙◌}
use Rattle.lists.specs.Basics.{refl, sym, ap, Bool, true, false, cond, true≢false, List, [], any, eq_list-true, eq_list_refl, and_fst, and_snd, or_else, or_fst, or_snd}
use Rattle.lists.specs.Order.{less_irrefl, less_trans}
use Rattle.model.specs.Types.{Key, Record}
use Rattle.model.specs.Records.{key_numbers, key_of, key_less, in_order, rising, same_key, found, has_line, absent_at, line_of}
use Rattle.sheet_laws.specs.Search.{some_found}

pub same_key_lem : (a b : Key) → same_key a b ≡ true → a ≡ b
unfolding same_key key_numbers key_of
same_key_lem a b h = ap key_of (eq_list-true (key_numbers a) (key_numbers b) h)

pub same_key_refl : (k : Key) → same_key k k ≡ true
unfolding same_key
same_key_refl k = eq_list_refl (key_numbers k)

pub other_key : (a b : Key) → (a ≡ b → ⊥) → same_key a b ≡ false
unfolding same_key
other_key a b d = go (same_key a b) refl
  where
    go : (x : Bool) → same_key a b ≡ x → x ≡ false
    go true e = absurd (d (same_key_lem a b e))
    go false e = refl

-- some line has the key
abbrev pub lists_key : Key → List Record → Bool
lists_key k rs = any (λ (r : Record). same_key r.key k) rs

pub has_line_lem : (k : Key) (rs : List Record) → has_line k rs ≡ lists_key k rs
unfolding found
has_line_lem k rs = some_found (λ (r : Record). same_key r.key k) 0 rs

pub key_trans : (a b c : Key) → key_less a b ≡ true → key_less b c ≡ true → key_less a c ≡ true
unfolding key_less
key_trans a b c f g = less_trans (key_numbers a) (key_numbers b) (key_numbers c) f g

-- a key without a line counts as an ABSENT line of version 0
pub unlisted : (k : Key) (rs : List Record) → lists_key k rs ≡ false → line_of k rs ≡ absent_at k
unfolding line_of any
unlisted k [] h = refl
unlisted k (r ∷ rs) h =
    ap (λ (b : Bool). cond b r (line_of k rs)) (or_fst (same_key r.key k) (lists_key k rs) h)
    ∙ unlisted k rs (or_snd (same_key r.key k) (lists_key k rs) h)

-- a key after the first of a sheet in order is higher, and so another
pub key_later : (r : Record) (rs : List Record) (k : Key) → rising (r ∷ rs) ≡ true → lists_key k rs ≡ true → key_less r.key k ≡ true
unfolding rising in_order any
key_later r [] k h g = absurd (true≢false (sym g))
key_later r (x ∷ rs) k h g =
    let a : key_less r.key x.key ≡ true = and_fst (key_less r.key x.key) (rising (x ∷ rs)) h in
    let b : rising (x ∷ rs) ≡ true = and_snd (key_less r.key x.key) (rising (x ∷ rs)) h in
    or_else (same_key x.key k) (lists_key k rs) g
    (λ e. ap (key_less r.key) (sym (same_key_lem x.key k e)) ∙ a)
    (λ e n. key_trans r.key x.key k a (key_later x rs k b n))

pub apart : (r : Record) (rs : List Record) (k : Key) → rising (r ∷ rs) ≡ true → lists_key k rs ≡ true → same_key r.key k ≡ false
unfolding key_less
apart r rs k h g =
    other_key r.key k
    (λ e. true≢false (sym (key_later r rs k h g) ∙ (ap (key_less r.key) (sym e) ∙ less_irrefl (key_numbers r.key))))
