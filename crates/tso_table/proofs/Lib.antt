pub mod KeptLemmas
pub mod RowLemmas
pub mod SoundLemmas
pub mod StateLemmas
pub mod SumLemmas
