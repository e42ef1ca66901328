pub mod Parts
pub mod Scrolls
pub mod Seams
pub mod Sources
pub mod Scanned
pub mod Halves
pub mod Neighbours
