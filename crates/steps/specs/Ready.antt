-- What the refusals have let pass, in the parts that each phase asks for: accepted bytes, and of a well-formed transaction its body, and its place by its phase.
use Rattle.std.specs.Prelude.{◌≡◌, ◌≤◌, ◌<◌, ◌||◌, ◌∷◌}
use Rattle.std.proofs.Common.{◌∙◌}
use Rattle.lists.specs.Basics.{refl, sym, ap, ℕ, zero, suc, ltb, Bool, true, List, [], length, take, drop, get_or, arith, ltb-true}
use Rattle.lists.specs.Basics.{any, or_right}
use Rattle.model.specs.Types.{Entry, Transaction}
use Rattle.model.specs.Records.{records, records_accepted, same_key}
use Rattle.model.specs.Coordinator.{Letter, coordinator_of, coordinator_readable}
use Rattle.model.specs.Transactions.{to_validate, must_validate, held, puts, moved, no_entry}
use Rattle.model.specs.Groups.{group_count}
use Rattle.model.specs.WellFormed.{well_formed, place_formed}
use Rattle.model.specs.ByteCalls.{sheets_of}
use Rattle.sheet_laws.specs.KeyOrder.{same_key_refl}
use Rattle.call_laws.specs.Keys.{has_key, kept_key}
use Rattle.call_laws.specs.Transactions.{Body, Stage, well_formed-parts, place_at_lem}
use Rattle.call_laws.specs.Lifting.{LinesFit}
use Rattle.transactions.specs.Units.{units_in, units-said}
use Rattle.held_lines.specs.declared.Located.{Located}
use Rattle.held_lines.specs.Located.{Indexed, Grouped}
use Rattle.group_writes.specs.Ready.{Ready as MayWrite}

-- what refusals 1 to 3 let pass, and what was found of the entries
pub record Ready (rs cs : List ℕ) (t : Transaction) (l : Located) : Type 0 where
  pub fit : LinesFit rs cs
  pub formed : well_formed (sheets_of rs cs) t ≡ true
  pub indexed : Indexed (records rs) t l.indices t.count
  pub grouped : Grouped (coordinator_of cs).units t l

-- a transaction whose number is issued, all that a decision asks for
pub record Known (cs : List ℕ) (t : Transaction) : Type 0 where
  pub accepted : coordinator_readable cs ≡ true
  pub number : 1 ≤ t.number
  pub issued : t.number ≤ (coordinator_of cs).issued
  pub few : t.count ≤ 8

-- an entry of the list has its key in the list
key_at_lem : (es : List Entry) (i : ℕ) → i < length es → has_key (get_or es i no_entry).key es ≡ true
unfolding any
key_at_lem [] i l = absurd (omega arith)
key_at_lem (e ∷ es) zero l = ap (λ (b : Bool). b || has_key e.key es) (same_key_refl e.key)
key_at_lem (e ∷ es) (suc i) l = or_right (same_key e.key (get_or es i no_entry).key) (has_key (get_or es i no_entry).key es) (key_at_lem es i (omega arith))

-- the entry to be validated is one that the transaction holds
pub validate_held : (us : List Letter) (t : Transaction) → t.place < length (to_validate us t) → has_key (get_or (to_validate us t) t.place no_entry).key (held t) ≡ true
unfolding to_validate
validate_held us t l = kept_key (must_validate us t) (get_or (to_validate us t) t.place no_entry).key (held t) (key_at_lem (to_validate us t) t.place l)

module _ (rs cs : List ℕ) (t : Transaction) (l : Located) (ready : Ready rs cs t l) where
  body : Body (sheets_of rs cs) t
  body = (well_formed-parts (sheets_of rs cs) t ready.formed).0

  stage : Stage (coordinator_of cs).units t
  stage = (well_formed-parts (sheets_of rs cs) t ready.formed).1

  pub records_accepted_lem : records_accepted rs ≡ true
  records_accepted_lem = ready.fit.0

  pub coordinator_readable_lem : coordinator_readable cs ≡ true
  coordinator_readable_lem = ready.fit.1.0

  -- the letters of the head say the units
  pub units : units_in (take 9 (drop 5 cs)) ≡ (coordinator_of cs).units
  units = units-said cs coordinator_readable_lem

  pub few : t.count ≤ 8
  few = body.few

  pub may_write : MayWrite rs cs t l
  may_write = record { fit = ready.fit; body = body; indexed = ready.indexed; grouped = ready.grouped }

  pub known : Known cs t
  known =
      record { accepted = coordinator_readable_lem; number = body.number; issued = body.known; few = few }

  -- Where there is a place, it is below a number.

  place_below : (p n : ℕ) → place_formed (coordinator_of cs).units (moved p t.place t.verdict t) ≡ ltb t.place n → t.phase ≡ p → t.place < n
  place_below p n h e = ltb-true t.place n (sym h ∙ place_at_lem (coordinator_of cs).units t stage p e)

  abbrev pub InGroups : Type 0
  InGroups = t.place < l.groups

  below_groups : t.place < group_count (coordinator_of cs).units (puts t) → InGroups
  below_groups h = let e = ready.grouped.count in omega (arith, e, h)

  pub place_prepare : t.phase ≡ 1 → InGroups
  unfolding place_formed puts held
  place_prepare e = below_groups (place_below 1 (group_count (coordinator_of cs).units (puts t)) refl e)

  pub place_validate : t.phase ≡ 2 → t.place < length (to_validate (coordinator_of cs).units t)
  unfolding place_formed to_validate held
  place_validate e = place_below 2 (length (to_validate (coordinator_of cs).units t)) refl e

  pub place_finish : t.phase ≡ 5 → InGroups
  unfolding place_formed puts held
  place_finish e = below_groups (place_below 5 (group_count (coordinator_of cs).units (puts t)) refl e)

  pub place_undo : t.phase ≡ 6 → InGroups
  unfolding place_formed puts held
  place_undo e = below_groups (place_below 6 (group_count (coordinator_of cs).units (puts t)) refl e)
