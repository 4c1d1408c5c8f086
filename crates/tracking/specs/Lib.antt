pub mod Calls
pub mod Stream
pub mod History
