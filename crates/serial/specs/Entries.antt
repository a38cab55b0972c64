-- The entries of a transaction and what they put: what is put for a key is put by an entry of that key, and since keys are distinct by the only one; and every
-- entry of a checked transaction is a put or is to be validated. Each by induction on the entries.
use Rattle.std.specs.Prelude.{◌≡◌, ◌&&◌, ◌∷◌, ◌⊎◌}
use Rattle.std.proofs.Common.{◌∙◌}
use Rattle.lists.specs.Basics.{refl, sym, ap, ap₂, Bool, true, false, not, cond, true≢false, and-false, List, [], none, some}
use Rattle.lists.specs.Basics.{none-ne-some, inl, inr, not-true, any, filter, and_fst, and_snd, and_both, or_left, or_right, or_fst, or_snd}
use Rattle.lists.specs.Members.{Mem, here, there, mem_filter}
use Rattle.model.specs.Types.{Key, Entry, Transaction}
use Rattle.model.specs.Groups.{is_lower}
use Rattle.model.specs.Images.{Change, change_of}
use Rattle.model.specs.Records.{same_key}
use Rattle.model.specs.Coordinator.{Letter}
use Rattle.model.specs.Transactions.{held, is_put, must_validate, to_validate, is_empty, is_serializable}
use Rattle.model.specs.WellFormed.{distinct_keys}
use Rattle.sheet_laws.specs.KeyOrder.{same_key_lem, same_key_refl}
use Rattle.call_laws.specs.Keys.{has_key}
use Rattle.recovery.specs.Memory.{put_in}

-- nothing is in an empty list
pub none_in : {e : Entry} (es : List Entry) → Mem e es → is_empty es ≡ true → ⊥
none_in es here h = true≢false (sym h)
none_in es (there m) h = true≢false (sym h)

-- every entry of a checked transaction is a put or is to be validated
pub put_or_validated : (us : List Letter) (t : Transaction) → is_serializable t ≡ true → (e : Entry) → Mem e (held t)
    → (is_put e ≡ true) ⊎ Mem e (to_validate us t)
unfolding to_validate
put_or_validated us t c e m = go (is_put e) refl
  where
    go : (b : Bool) → is_put e ≡ b → (is_put e ≡ true) ⊎ Mem e (filter (must_validate us t) (held t))
    go true p = inl p
    go false p = inr (mem_filter (must_validate us t) (held t) m (and_both (ap not p) (or_left (is_serializable t) (is_lower us e.key) c)))

-- the entry of what is put for a key
pub record EntryOf (k : Key) (es : List Entry) : Type 0 where
  pub entry : Entry
  pub member : Mem entry es
  pub key : entry.key ≡ k

pub put_entry : (k : Key) (es : List Entry) (c : Change) → put_in k es ≡ some c → EntryOf k es
unfolding put_in
put_entry k [] c h = absurd (none-ne-some c h)
put_entry k (e ∷ es) c h = go (is_put e && same_key e.key k) refl h (put_entry k es c)
  where
    go : (b : Bool) → (is_put e && same_key e.key k) ≡ b → cond b (some (change_of e)) (put_in k es) ≡ some c → (put_in k es ≡ some c → EntryOf k es)
        → EntryOf k (e ∷ es)
    go true q g f = record { entry = e; member = here; key = same_key_lem e.key k (and_snd (is_put e) (same_key e.key k) q) }
    go false q g f = let r = f g in record { entry = r.entry; member = there r.member; key = r.key }

-- something is put for the key of a put
pub put_there : (e : Entry) (es : List Entry) → Mem e es → is_put e ≡ true → (c : Change) × (put_in e.key es ≡ some c)
unfolding put_in
put_there e (x ∷ es) here p = (change_of e, ap₂ (λ (a b : Bool). cond (a && b) (some (change_of e)) (put_in e.key es)) p (same_key_refl e.key))
put_there e (x ∷ es) (there m) p = go (is_put x && same_key x.key e.key) refl (put_there e es m p)
  where
    go : (b : Bool) → (is_put x && same_key x.key e.key) ≡ b → (c : Change) × (put_in e.key es ≡ some c)
        → (c : Change) × (put_in e.key (x ∷ es) ≡ some c)
    go true q r = (change_of x, ap (λ (b : Bool). cond b (some (change_of x)) (put_in e.key es)) q)
    go false q r = (r.0, ap (λ (b : Bool). cond b (some (change_of x)) (put_in e.key es)) q ∙ r.1)
put_there e [] x'' p = elim x'' [ ]

-- Keys are distinct.

no_put : (k : Key) (es : List Entry) → has_key k es ≡ false → put_in k es ≡ none
unfolding put_in any
no_put k [] h = refl
no_put k (x ∷ es) h =
    let s : same_key x.key k ≡ false = or_fst (same_key x.key k) (has_key k es) h in
    rw (s, and-false (is_put x)) (no_put k es (or_snd (same_key x.key k) (has_key k es) h))

pub member_key : (e : Entry) (es : List Entry) → Mem e es → has_key e.key es ≡ true
unfolding any
member_key e (x ∷ es) here = or_left (same_key e.key e.key) (has_key e.key es) (same_key_refl e.key)
member_key e (x ∷ es) (there m) = or_right (same_key x.key e.key) (has_key e.key es) (member_key e es m)
member_key e [] x' = elim x' [ ]

-- an entry whose key is put to is the one that puts
pub only_put : (es : List Entry) → distinct_keys es ≡ true → (e : Entry) → Mem e es → (c : Change) → put_in e.key es ≡ some c → is_put e ≡ true
unfolding put_in distinct_keys
only_put (x ∷ es) u e here c g = go (is_put e) refl
  where
    absent : has_key e.key es ≡ false
    absent = not-true (has_key e.key es) (and_fst (not (has_key e.key es)) (distinct_keys es) u)

    go : (b : Bool) → is_put e ≡ b → is_put e ≡ true
    go true q = q
    go false q =
        absurd (none-ne-some c
        (sym (no_put e.key es absent)
        ∙ (ap (λ (b : Bool). cond (b && same_key e.key e.key) (some (change_of e)) (put_in e.key es)) (sym q) ∙ g)))
only_put (x ∷ es) u e (there m) c g =
    go (is_put x && same_key x.key e.key) refl g (only_put es (and_snd (not (has_key x.key es)) (distinct_keys es) u) e m c)
  where
    absent : has_key x.key es ≡ false
    absent = not-true (has_key x.key es) (and_fst (not (has_key x.key es)) (distinct_keys es) u)

    go : (b : Bool) → (is_put x && same_key x.key e.key) ≡ b → cond b (some (change_of x)) (put_in e.key es) ≡ some c
        → (put_in e.key es ≡ some c → is_put e ≡ true) → is_put e ≡ true
    go true q h f =
        let same : x.key ≡ e.key = same_key_lem x.key e.key (and_snd (is_put x) (same_key x.key e.key) q) in
        absurd (true≢false (sym (member_key e es m) ∙ (ap (λ (k : Key). has_key k es) (sym same) ∙ absent)))
    go false q h f = f h
only_put [] u e x3 c g = elim x3 [ ]
