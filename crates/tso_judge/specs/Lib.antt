pub mod Codes
pub mod Judging
pub mod Moved
pub mod Valid
pub mod Words
pub mod Fitting
pub mod Certified
