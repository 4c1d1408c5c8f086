pub mod Ends
pub mod Inputs
pub mod Laws
pub mod Runs
