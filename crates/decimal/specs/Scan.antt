-- How far a field has been read: spaces only, a figure, or something that is no figure.
use Rattle.std.specs.Prelude.{ℕ}

pub data Scan : Type 0 where
  Blank : Scan
  Number : ℕ → Scan
  Wrong : Scan
