-- Definitions and laws on lists, tests and choices that several crates cite.
pub mod Kit
pub mod Bytes
pub mod All
pub mod Alike
pub mod Chosen
pub mod Members
pub mod Each
pub mod Chains
pub mod Chunks
pub mod Fill
pub mod Order
pub mod Pieces
pub mod Tests
pub mod Walks
pub mod Basics
