pub mod AskedLemmas
pub mod FirstLemmas
pub mod MergingLemmas
