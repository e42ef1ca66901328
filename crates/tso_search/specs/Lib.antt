pub mod BySteps
pub mod Grounds
pub mod Marking
pub mod Reached
pub mod Goodness
pub mod Searched
pub mod Shortening
pub mod Ways
