pub mod Read
pub mod Fault
pub mod Results
pub mod Claim
pub mod Numbers
