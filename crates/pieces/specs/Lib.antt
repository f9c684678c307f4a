pub mod Chain
pub mod Shift
pub mod Message
pub mod Streams
