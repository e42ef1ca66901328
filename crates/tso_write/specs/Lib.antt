pub mod Cutting
pub mod Ordering
pub mod Spelled
pub mod Spelling
pub mod Tasks
pub mod Unspelled
pub mod Worked
