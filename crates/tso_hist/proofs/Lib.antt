pub mod InTurn
pub mod Viewed
