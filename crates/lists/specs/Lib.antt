pub mod Run
pub mod Tabulate
