pub mod Asked
pub mod Findings
pub mod Firsts
pub mod Outcomes
