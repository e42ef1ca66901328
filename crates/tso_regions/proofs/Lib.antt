pub mod RegionLemmas
pub mod GatheringLemmas
pub mod SettlingLemmas
pub mod ConclusionLemmas
