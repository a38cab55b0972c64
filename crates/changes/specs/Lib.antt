-- What one turn of a loop does to the definition that the loop computes, what the call answers, and cases by computation.
pub mod Lines
pub mod Lengths
pub mod Answers
pub mod Cases
