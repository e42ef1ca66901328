pub mod Begun
pub mod Completing
pub mod Decided
pub mod Entries
pub mod Filled
pub mod Keys
pub mod Next
pub mod Steps
