-- What a line of a history says.
pub mod Lines
