-- The fast check of a record sheet, proved equal to the plain one.
pub mod Ranges
pub mod LayoutParts
pub mod Limits
pub mod Relations
pub mod Asked
pub mod States
pub mod Line
pub mod Overlap
pub mod Tables
pub mod Keys
pub mod Sheet
