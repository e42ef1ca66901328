pub mod BeginningLemmas
pub mod Cutting
