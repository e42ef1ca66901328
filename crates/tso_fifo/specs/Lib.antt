pub mod Candidates
pub mod Check
pub mod Contents
pub mod Laws
pub mod Orders
pub mod Search
