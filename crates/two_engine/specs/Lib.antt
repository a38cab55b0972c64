-- Sheets lent without their spares, and what the calls on both sheets come to.
pub mod Forms
pub mod Performing
pub mod Lookups
