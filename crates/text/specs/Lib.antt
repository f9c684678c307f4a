pub mod Claim
pub mod Calls
