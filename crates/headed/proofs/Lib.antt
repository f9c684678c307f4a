pub mod Old
pub mod Refusals
pub mod Groups
pub mod Header
pub mod Back
pub mod Only
pub mod Main
pub mod Cases
