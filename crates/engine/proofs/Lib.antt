pub mod Estimates
pub mod Keeps
pub mod Words
