-- The definitions and the claims.
pub mod Table
pub mod Machine
pub mod History
pub mod Recovery
pub mod Claim
