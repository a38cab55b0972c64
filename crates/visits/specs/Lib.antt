-- The visit of a key, case by case.
pub mod Visiting
