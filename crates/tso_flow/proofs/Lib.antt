pub mod Closing
pub mod Firsts
pub mod Limits
pub mod Locations
pub mod Marking
pub mod Shapes
pub mod Sound
