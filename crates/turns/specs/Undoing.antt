-- Removing what was added gives the sheets back, of any kind: it does so on what they say, and sheets that pass are told apart by what they say.
use Rattle.std.specs.Prelude.{◌≡◌}
use Rattle.std.proofs.Common.{◌∙◌}
use Rattle.lists.specs.Basics.{sym, ap}
use Rattle.model.specs.Types.{Key}
use Rattle.model.specs.Results.{Call, add, remove, acknowledged}
use Rattle.model.specs.Histories.{answer, after, ClockFits}
use Rattle.model.specs.ByteHistories.{Bytes, Passing, saying}
use Rattle.model.specs.Kinds.{Kind, bytes_kind}
use Rattle.model.specs.Recovered.{Undoes}
use Rattle.call_laws.specs.Sheets.{good_parts}
use Rattle.call_laws.specs.Lifting.{encoded, passing_encoded}
use Rattle.call_laws.specs.Undoing.{Undone, add_undone, remove_undone}
use Rattle.turns.specs.Lift.{Faithful}
use Rattle.turns.specs.Bytes.{bytes_faithful}

module _ {S : Type 0} (kind : Kind S) (laws : Faithful kind) (same : (a b : S) → kind.passes a → kind.passes b → kind.sheets a ≡ kind.sheets b → a ≡ b) where
  undone_on : (c d : Call) (b : S) → ClockFits c → ClockFits d → kind.passes b → Undone c d (kind.sheets b) → Undoes kind c d b
  undone_on c d b l m p u =
      let q = laws.call_stays c b l p in
      let r = laws.call_stays d (kind.leaves c b) m q.1 in (
        laws.same_answer d (kind.leaves c b) q.1 ∙ (ap (answer d) q.0 ∙ u.answered),
        same (kind.leaves d (kind.leaves c b)) b r.1 p (r.0 ∙ (ap (after d) q.0 ∙ u.left)),
      )

  pub added_removed_of : (k : Key) (b : S) → kind.passes b → kind.answers (add k) b ≡ acknowledged → Undoes kind (add k) (remove k) b
  added_removed_of k b p e = undone_on (add k) (remove k) b tt tt p (add_undone k (kind.sheets b) (sym (laws.same_answer (add k) b p) ∙ e))

  pub removed_added_of : (k : Key) (b : S) → kind.passes b → kind.answers (remove k) b ≡ acknowledged → Undoes kind (remove k) (add k) b
  removed_added_of k b p e =
      undone_on (remove k) (add k) b tt tt p
      (remove_undone k (kind.sheets b) (good_parts (kind.sheets b) (laws.good b p)) (sym (laws.same_answer (remove k) b p) ∙ e))

-- On a record sheet.

same-bytes-said : (a b : Bytes) → Passing a → Passing b → saying a ≡ saying b → a ≡ b
same-bytes-said a b p q e = sym (passing_encoded a p) ∙ (ap encoded e ∙ passing_encoded b q)

pub added_removed : (k : Key) (b : Bytes) → Passing b → bytes_kind.answers (add k) b ≡ acknowledged → Undoes bytes_kind (add k) (remove k) b
added_removed k b p e = added_removed_of bytes_kind bytes_faithful same-bytes-said k b p e

pub removed_added : (k : Key) (b : Bytes) → Passing b → bytes_kind.answers (remove k) b ≡ acknowledged → Undoes bytes_kind (remove k) (add k) b
removed_added k b p e = removed_added_of bytes_kind bytes_faithful same-bytes-said k b p e
