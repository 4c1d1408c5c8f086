pub mod Steps
pub mod Range
