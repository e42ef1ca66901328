pub mod Joins
pub mod Readings
pub mod Runs
