-- Theorems about operations, turns and histories of turns.
pub mod Operations
pub mod Turns
pub mod Units
pub mod Told
pub mod Closes
pub mod Reduction
pub mod Lift
pub mod Bytes
pub mod Undoing
