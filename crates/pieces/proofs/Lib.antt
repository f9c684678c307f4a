pub mod Chain
pub mod Move
pub mod Message
pub mod Flow
