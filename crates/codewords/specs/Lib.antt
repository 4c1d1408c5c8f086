pub mod Codewords
pub mod Decode
pub mod Inner
