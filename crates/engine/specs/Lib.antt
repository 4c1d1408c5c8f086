pub mod Estimate
pub mod Adaptation
pub mod Prediction
pub mod Advance
