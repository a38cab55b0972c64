-- What stands in the area of a call on two sheets.
pub mod Areas
