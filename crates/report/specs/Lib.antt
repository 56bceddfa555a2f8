pub mod Lines
pub mod Writes
pub mod Text
