pub mod Reset
pub mod Range
pub mod InRange
pub mod Words
pub mod Moved
pub mod Numbers
