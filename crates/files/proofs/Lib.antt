pub mod Front
pub mod Runs
pub mod Call
