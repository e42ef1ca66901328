pub mod Data
pub mod Escapes
