pub mod Saved
pub mod Texts
pub mod Due
pub mod Pieces
pub mod P1
