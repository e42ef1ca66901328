pub mod Trees
pub mod Certificates
pub mod Limits
pub mod Lookup
pub mod Search
pub mod Seen
