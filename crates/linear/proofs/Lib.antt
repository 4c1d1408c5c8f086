pub mod Signs
pub mod Levels
pub mod Ends
