pub mod Limits
pub mod Message
pub mod Digits
pub mod Piece
pub mod Reading
pub mod Text
