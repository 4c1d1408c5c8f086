pub mod Mantissa
pub mod Range
