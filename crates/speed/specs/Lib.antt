pub mod Inner
pub mod Speed
