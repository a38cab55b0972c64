-- Laws for the code that joins.
pub mod Joins
pub mod Agrees
pub mod Splits
pub mod Fills
