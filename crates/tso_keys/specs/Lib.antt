pub mod Numbers
pub mod Keys
pub mod Running
pub mod Forms
pub mod Orders
pub mod Listing
pub mod Marks
pub mod Moving
