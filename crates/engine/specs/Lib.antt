-- A number issued, and operations refused or let pass by the check.
pub mod Issuing
pub mod Fronts
pub mod Responses
