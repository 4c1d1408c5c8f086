pub mod Cores
pub mod Adjusting
pub mod Disagreements
pub mod Tracks
pub mod FirstBytes
pub mod HeldEnds
