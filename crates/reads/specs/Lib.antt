-- Read, either call, case by case.
pub mod Fetching
