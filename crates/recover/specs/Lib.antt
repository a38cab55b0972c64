-- Clock readings, what a visit of a line comes to, and what it writes.
pub mod Clocks
pub mod Recovering
