pub mod ChoiceLemmas
pub mod ChoosingLemmas
pub mod ClosureLemmas
pub mod NeedLemmas
