-- The answers of what is exported for C.
pub mod ByPlace
pub mod TwoByPlace
pub mod Telling
pub mod Facts
