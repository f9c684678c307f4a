pub mod Texts
pub mod Finish
pub mod Words
pub mod Expected
