pub mod Text
pub mod Claim
