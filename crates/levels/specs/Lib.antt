pub mod Levels
pub mod Encode
pub mod Inner
