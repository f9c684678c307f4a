pub mod Back
pub mod BackLines
pub mod Main
pub mod Calls
