pub mod Runs
pub mod Filled
pub mod Front
pub mod Tables
pub mod Rest
pub mod Running
