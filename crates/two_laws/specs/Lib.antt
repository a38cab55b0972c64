-- The plain sheet and the bookkeeping sheet, and laws of their join.
pub mod Deciding
pub mod Parts
pub mod TwoLines
pub mod FilledSheets
pub mod JoinedSheets
pub mod KeysAsBytes
pub mod Decision
pub mod Encoding
pub mod SparedJoin
pub mod TwoEncoding
pub mod TwoCases
