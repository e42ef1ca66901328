pub mod LineLemmas
pub mod VariantLemmas
