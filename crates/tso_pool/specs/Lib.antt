pub mod Endings
pub mod Numbering
pub mod Hands
pub mod Linked
pub mod Seats
pub mod Victims
