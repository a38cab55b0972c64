-- What a step asks for, and what it leaves on both sheets.
pub mod Ready
pub mod Stepped
pub mod Cases
