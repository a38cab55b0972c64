-- What C asks of a call by place and is answered, as numbers.
pub mod Numbers
pub mod Told
pub mod Asked
pub mod TwoNumbers
pub mod Ranks
