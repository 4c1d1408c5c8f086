pub mod Core
pub mod Encode
pub mod Decode
pub mod Pcm
pub mod Signal
pub mod End
