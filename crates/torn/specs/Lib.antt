pub mod Torn
pub mod Bench
pub mod Choices
