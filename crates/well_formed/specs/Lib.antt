-- Well-formedness in the order in which the code asks, and what the own line forbids.
pub mod Formed
pub mod Barred
