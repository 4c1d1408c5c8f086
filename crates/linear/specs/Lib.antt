pub mod Linear
