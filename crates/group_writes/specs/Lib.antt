-- What a turn of a loop does to the definition that the loop computes, for loops over a transaction's entries and a record sheet.
pub mod Groups
pub mod Changes
pub mod Turns
pub mod Ready
