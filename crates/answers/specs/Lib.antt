-- What the calls answer.
pub mod Answers
pub mod Outcomes
