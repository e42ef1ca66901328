pub mod Accesses
pub mod Calls
pub mod Faults
pub mod First
pub mod Laws
pub mod Marks
pub mod Paths
