pub mod Number
pub mod Row
pub mod Whole
