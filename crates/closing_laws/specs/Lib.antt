-- Closing an order in one call: what its steps are, where it ends, and what it reports.
pub mod Steps
pub mod Advances
pub mod Writes
pub mod Limits
pub mod Report
pub mod Ends
pub mod Greatest
