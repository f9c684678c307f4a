pub mod Mapped
pub mod Parts
pub mod Headers
pub mod Turns
pub mod Whole
