pub mod SkipLemmas
pub mod TreeLemmas
