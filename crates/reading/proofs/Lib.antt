pub mod Tests
pub mod Spots
pub mod Counts
pub mod Turns
pub mod Walk
