pub mod Beginning
pub mod Speech
pub mod Stop
pub mod Widths
