-- The work of the visiting program: its first line, its passes, and what it leaves in lent memory.
pub mod Passes
pub mod FirstLine
pub mod Sizes
pub mod Output
