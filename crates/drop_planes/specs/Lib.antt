pub mod Drop
pub mod Inner
