-- What the check of a coordinator sheet computes, and that it is what document 01 says.
pub mod Numbers
pub mod Lines
pub mod Passes
pub mod Head
pub mod Sheet
pub mod Issued
