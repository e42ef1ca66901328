pub mod Calls
pub mod Whys
