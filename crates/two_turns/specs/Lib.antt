-- The operations on a plain sheet and a bookkeeping sheet: demand 3 over them, and the joined sheet's answers.
pub mod Turns
pub mod History
pub mod JoinedCalls
pub mod Units
pub mod Refusals
pub mod Readings
