-- What one turn of a loop does to the definition that the loop computes, and what each call answers.
pub mod Filling
pub mod RowsPass
pub mod Spares
pub mod Answers
pub mod Decisions
pub mod DecisionFills
pub mod DecisionAnswers
