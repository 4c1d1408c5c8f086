pub mod Capitals
pub mod Octets
pub mod Return
pub mod Laying
pub mod Coming
pub mod Layouts
pub mod Progress
pub mod Tight
