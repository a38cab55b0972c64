-- What is proved of the engine, and a sample that meets every hypothesis.
pub mod Tables
pub mod Sample
pub mod ClientSample
pub mod SerialSample
pub mod TwoSample
pub mod SpareSample
pub mod Theorems
pub mod TwoTheorems
