pub mod Image
pub mod Reader
pub mod Recovery
pub mod Claim
