pub mod Fitness
pub mod Answers
