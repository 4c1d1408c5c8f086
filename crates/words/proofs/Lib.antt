pub mod Length
pub mod Pick
pub mod Tests
pub mod Rows
pub mod First
pub mod Within
pub mod Shared
pub mod Masks
