pub mod Forms
pub mod Parts
