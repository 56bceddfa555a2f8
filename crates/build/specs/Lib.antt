pub mod Intern
pub mod Prints
pub mod Seed
pub mod Push
pub mod Model
pub mod Exists
pub mod Again
pub mod Building
