pub mod Places
pub mod Accepted
pub mod Leaves
pub mod Steps
pub mod Tells
