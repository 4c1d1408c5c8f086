pub mod Sums
pub mod Float
pub mod Coefficient
pub mod Tone
pub mod Inner
