-- What is asked of a transaction before a call looks into it.
pub mod Admission
