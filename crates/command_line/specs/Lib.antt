pub mod CallWords
pub mod Cutting
pub mod Status
