pub mod Remembered
pub mod Sheets
pub mod Stepping
pub mod Seeking
pub mod Likes
pub mod Lone
pub mod Gathering
pub mod Arriving
