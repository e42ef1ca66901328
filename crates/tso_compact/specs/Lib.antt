pub mod Clauses
pub mod Laws
pub mod Motions
pub mod Plans
