-- What one turn of the search does, and what each call answers.
pub mod Search
pub mod Answers
