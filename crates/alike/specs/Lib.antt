pub mod Alike
pub mod Bench
