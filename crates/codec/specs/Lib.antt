-- What one turn of a loop does to the definition that the loop computes.
pub mod Turns
pub mod Rows
pub mod Parts
pub mod Casts
pub mod Orders
pub mod Words
