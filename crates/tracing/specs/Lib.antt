pub mod Text
pub mod Results
pub mod Pieces
