pub mod Layout
pub mod Claim
