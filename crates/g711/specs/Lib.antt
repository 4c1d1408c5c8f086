pub mod G711
pub mod Expand
pub mod Compress
pub mod Neighbour
