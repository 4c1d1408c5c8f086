pub mod Fitness
pub mod Samples
pub mod Encoding
pub mod Answers
pub mod Expansion
