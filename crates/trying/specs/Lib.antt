pub mod Line
pub mod Score
