pub mod Mixed
pub mod Torn
pub mod Choices
pub mod Bench
pub mod Cases
