pub mod Views
pub mod Backs
pub mod Ground
pub mod Shrinking
pub mod Meeting
pub mod Staying
pub mod Leading
