-- What the types' own conversions give.
pub mod Numbers
