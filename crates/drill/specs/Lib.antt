pub mod Drilled
pub mod Calls
