pub mod Signs
pub mod Pieces
pub mod Layout
pub mod Denotes
