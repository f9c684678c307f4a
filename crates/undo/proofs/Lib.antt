-- The proofs, in the order in which they build on each other.
pub mod Laws
pub mod Inv
pub mod Links
pub mod Values
pub mod Media
pub mod Steps
pub mod Walk
pub mod Finish
pub mod Shape
pub mod Main
pub mod Pick
pub mod Runs
