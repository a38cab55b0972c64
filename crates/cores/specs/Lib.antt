-- What the calls on accepted sheets answer and leave.
pub mod Begins
pub mod Putting
pub mod Aborting
pub mod Advancing
pub mod Closing
