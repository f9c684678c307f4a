pub mod Ripe
