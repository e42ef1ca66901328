pub mod Leading
pub mod OneThread
pub mod Ends
pub mod Sheets
pub mod Totals
