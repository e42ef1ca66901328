pub mod EscapeLemmas
pub mod Joins
