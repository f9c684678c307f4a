pub mod Lists
pub mod Search
pub mod Bounds
pub mod Bytes
