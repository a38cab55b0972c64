-- A line put into a sheet and one taken out, and spares at its end.
pub mod Shifted
pub mod Moves
pub mod Comparing
pub mod Counting
pub mod Spares
