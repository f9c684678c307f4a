pub mod Bytes
pub mod Lengths
pub mod Call
pub mod Cases
pub mod One
