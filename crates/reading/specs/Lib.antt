pub mod Scan
pub mod Spots
pub mod Item
