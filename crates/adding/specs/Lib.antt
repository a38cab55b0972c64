-- Laws of adding and removing a line: what is told of its place, and the sheets after it.
pub mod Placing
pub mod Shifts
pub mod Calls
