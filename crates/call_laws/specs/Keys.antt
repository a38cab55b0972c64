-- Entries are found by their keys.
use Rattle.std.specs.Prelude.{◌≡◌, ◌&&◌, ◌||◌, ◌∷◌}
use Rattle.std.proofs.Common.{◌∙◌}
use Rattle.lists.specs.Basics.{refl, sym, ap, Bool, true, false, cond, true≢false, List, [], none, some, none-ne-some}
use Rattle.lists.specs.Basics.{some-injective, all, any, filter, and_fst, and_snd, or_else}
use Rattle.lists.specs.Chosen.{any-filter, any_weaken}
use Rattle.model.specs.Types.{Key, Entry}
use Rattle.model.specs.Records.{same_key}
use Rattle.model.specs.Writes.{entry_for}
use Rattle.sheet_laws.specs.KeyOrder.{same_key_lem, same_key_refl, other_key}

pub same_key_flip : (a b : Key) → same_key a b ≡ false → same_key b a ≡ false
same_key_flip a b h = other_key b a (λ e. true≢false (sym (same_key_refl b) ∙ (ap (λ (k : Key). same_key k b) e ∙ h)))

-- some entry has the key
abbrev pub has_key : Key → List Entry → Bool
has_key k es = any (λ (e : Entry). same_key e.key k) es

pub no_entry_lem : (k : Key) (es : List Entry) → has_key k es ≡ false → entry_for k es ≡ none
unfolding entry_for any
no_entry_lem k [] h = refl
no_entry_lem k (e ∷ es) h = go (same_key e.key k) h (no_entry_lem k es)
  where
    go : (x : Bool) → (x || has_key k es) ≡ false → (has_key k es ≡ false → entry_for k es ≡ none) → cond x (some e) (entry_for k es) ≡ none
    go true g f = absurd (true≢false g)
    go false g f = f g

-- a test of keys that an entry of this key passes
pub key_passes : (q : Key → Bool) (k : Key) (es : List Entry) → any (λ (e : Entry). q e.key && same_key e.key k) es ≡ true → q k ≡ true
unfolding any
key_passes q k [] h = absurd (true≢false (sym h))
key_passes q k (e ∷ es) h =
    or_else (q e.key && same_key e.key k) (any (λ (f : Entry). q f.key && same_key f.key k) es) h
    (λ g. ap q (sym (same_key_lem e.key k (and_snd (q e.key) (same_key e.key k) g))) ∙ and_fst (q e.key) (same_key e.key k) g)
    (λ g n. key_passes q k es n)

-- a key among the entries that a filter keeps is one of all
pub kept_key : (q : Entry → Bool) (k : Key) (es : List Entry) → has_key k (filter q es) ≡ true → has_key k es ≡ true
kept_key q k es h =
    any_weaken (λ (e : Entry). q e && same_key e.key k) (λ (e : Entry). same_key e.key k) (λ e g. and_snd (q e) (same_key e.key k) g) es
    (sym (any-filter q (λ (e : Entry). same_key e.key k) es) ∙ h)

-- the keys of those entries whose keys pass a test
pub chosen_key : (q : Key → Bool) (k : Key) (es : List Entry) → has_key k (filter (λ (e : Entry). q e.key) es) ≡ true → (has_key k es ≡ true) × (q k ≡ true)
chosen_key q k es h = (
  kept_key (λ (e : Entry). q e.key) k es h,
  key_passes q k es (sym (any-filter (λ (e : Entry). q e.key) (λ (e : Entry). same_key e.key k) es) ∙ h),
)

-- The entry of a key.

pub entry_has_key : (k : Key) (es : List Entry) (e : Entry) → entry_for k es ≡ some e → e.key ≡ k
unfolding entry_for
entry_has_key k [] e h = absurd (none-ne-some e h)
entry_has_key k (f ∷ es) e h = go (same_key f.key k) refl h (entry_has_key k es e)
  where
    go : (b : Bool) → same_key f.key k ≡ b → cond b (some f) (entry_for k es) ≡ some e → (entry_for k es ≡ some e → e.key ≡ k) → e.key ≡ k
    go true g o i = ap (λ (x : Entry). x.key) (sym (some-injective f e o)) ∙ same_key_lem f.key k g
    go false g o i = i o

-- what all entries pass, the entry of a key passes
pub entry_passes : (p : Entry → Bool) (k : Key) (es : List Entry) (e : Entry) → all p es ≡ true → entry_for k es ≡ some e → p e ≡ true
unfolding entry_for all
entry_passes p k [] e h o = absurd (none-ne-some e o)
entry_passes p k (f ∷ es) e h o = go (same_key f.key k) o (entry_passes p k es e (and_snd (p f) (all p es) h))
  where
    go : (b : Bool) → cond b (some f) (entry_for k es) ≡ some e → (entry_for k es ≡ some e → p e ≡ true) → p e ≡ true
    go true q i = ap p (sym (some-injective f e q)) ∙ and_fst (p f) (all p es) h
    go false q i = i q
