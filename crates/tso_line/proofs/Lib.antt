pub mod Pieces
pub mod Each
pub mod Hex
