pub mod Next
pub mod Turns
