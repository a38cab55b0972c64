-- The units as the bytes of the coordinator's head, what one turn of a loop over a transaction's entries does, and a number that is no phase.
pub mod Units
pub mod Held
pub mod Numbers
pub mod Phases
pub mod Chains
