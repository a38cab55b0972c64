-- Where the lines of a transaction's entries are, and whether they are as they were read.
pub mod Lookup
pub mod Located
