pub mod Logarithm
pub mod Difference
