-- The answers of one function for every call.
pub mod Performing
