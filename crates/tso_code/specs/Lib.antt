pub mod Numbers
pub mod Fields
pub mod States
pub mod Tables
pub mod Ends
