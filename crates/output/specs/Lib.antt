pub mod Room
pub mod Decimal
pub mod Writer
