pub mod Rooms
pub mod Digits
