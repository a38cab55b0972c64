-- What one turn of a loop does to the definition that the loop computes, and what the call answers.
pub mod Filling
pub mod Answers
