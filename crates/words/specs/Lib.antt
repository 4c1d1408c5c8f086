pub mod Notation
pub mod Length
pub mod Within
pub mod Every
pub mod First
pub mod Inner
