pub mod Codes
pub mod DigitLemmas
pub mod EndCodes
pub mod ItemLemmas
pub mod NumberCode
pub mod StateCodes
pub mod TableCodes
