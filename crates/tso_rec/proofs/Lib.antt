pub mod FrontLemmas
pub mod KeptLemmas
pub mod PartLemmas
pub mod RecordCodes
