pub mod Between
pub mod Calls
pub mod Counted
pub mod Levels
pub mod Marks
pub mod Statuses
