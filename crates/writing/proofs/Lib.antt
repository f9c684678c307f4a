pub mod Emit
pub mod Records
