pub mod Fields
pub mod Records
pub mod Pieces
pub mod Lengths
