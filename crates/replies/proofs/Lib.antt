pub mod Answers
pub mod Equal
