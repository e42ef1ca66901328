pub mod Replaced
pub mod Statuses
pub mod Variants
