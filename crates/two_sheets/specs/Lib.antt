-- What stands in the area of a call on two sheets, what a call there comes to, and the look-up.
pub mod Performing
pub mod Lookups
