-- What a line of a history asks of the engine, the part of a sheet that it asks for, and what is replied.
pub mod Parts
pub mod Asking
pub mod Replied
