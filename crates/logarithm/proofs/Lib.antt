pub mod Range
pub mod Magnitude
