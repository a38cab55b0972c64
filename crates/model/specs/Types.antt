-- The types that code and specification share, passed on in one import. Declared in crates/types/src/lib.rt. Where two of them have a variant of one
-- name, it is the decision's or the recovery's here; that of a state, of a before state or of a reading is brought in from its type.
use Rattle.std.specs.Prelude.{ℕ, Option}
pub use Rattle.std.specs.Prelude.{Some, None}
pub use Rattle.types.specs.declared.Key.{Key}
pub use Rattle.types.specs.declared.Image.{Image}
pub use Rattle.types.specs.declared.Record.{Record}
pub use Rattle.types.specs.declared.State.{State}
pub use Rattle.types.specs.declared.Before.{Before}
pub use Rattle.types.specs.declared.Decision.{Decision}
pub use Rattle.types.specs.declared.Decision.TheVariants.{Undecided, Committed, Aborted}
pub use Rattle.types.specs.declared.AtomicityUnit.{AtomicityUnit}
pub use Rattle.types.specs.declared.Layout.{Layout}
pub use Rattle.types.specs.declared.Layout.TheVariants.{RecordLine, KeyLine, CoordinatorHead, CoordinatorLine}
pub use Rattle.types.specs.declared.Column.{Column}
pub use Rattle.types.specs.declared.Kind.{Kind}
pub use Rattle.types.specs.declared.Kind.TheVariants.{Figure, StateWord, BeforeWord, DecisionWord, UnitLetter}
pub use Rattle.types.specs.declared.Rank.{Rank}
pub use Rattle.types.specs.declared.Columns.{Columns}
pub use Rattle.types.specs.declared.Entry.{Entry}
pub use Rattle.types.specs.declared.Transaction.{Transaction}
pub use Rattle.types.specs.declared.Recovery.{Recovery}
pub use Rattle.types.specs.declared.Recovery.TheVariants.{Stays, Forward, Back, Again, Busy}
pub use Rattle.types.specs.declared.Reading.{Reading}
pub use Rattle.types.specs.declared.Request.{Request}

-- the index of what was looked for, counted from 0, if it is there
abbrev pub Found : Type 0
Found = Option ℕ

-- what is told of a key on any sheet, as numbers: a refusal, or 0 and where the key stands; beside a refusal the rank is 0, and the key not present
pub record Ranked : Type 0 where
  pub refusal : ℕ
  pub rank : Rank
