pub mod Turns
pub mod Indices
pub mod Walked
pub mod Held
