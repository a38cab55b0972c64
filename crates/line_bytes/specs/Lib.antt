-- Lines as rows of parts, and the tables by which one pass judges a line.
pub mod Parts
pub mod Tables
pub mod Laws
pub mod Order
pub mod Loads
pub mod Turns
