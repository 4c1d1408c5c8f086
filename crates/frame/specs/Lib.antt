pub mod Header
pub mod Planes
pub mod Read
pub mod Rows
pub mod Sound
