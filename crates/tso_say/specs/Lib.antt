pub mod Ahead
pub mod Pages
pub mod Said
pub mod Unwritten
pub mod Words
