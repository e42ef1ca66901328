pub mod Choices
pub mod Choosing
pub mod Closures
pub mod Laws
pub mod Needs
pub mod Sets
