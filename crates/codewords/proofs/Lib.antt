pub mod Fitness
pub mod Decoding
pub mod Answers
pub mod Ends
