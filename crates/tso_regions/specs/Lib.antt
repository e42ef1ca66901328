pub mod Owners
pub mod Regions
pub mod Gathering
