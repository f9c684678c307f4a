pub mod Names
pub mod Numbers
pub mod Words
pub mod Reading
pub mod Lines
pub mod Sizes
pub mod Faults
pub mod Cases
