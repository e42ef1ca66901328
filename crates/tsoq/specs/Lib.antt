pub mod Parsed
pub mod Reports
pub mod Upgraded
pub mod Written
