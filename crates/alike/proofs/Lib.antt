pub mod Forms
pub mod Entries
pub mod Alike
pub mod Bench
