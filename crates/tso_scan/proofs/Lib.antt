pub mod PartLemmas
pub mod ScrollLemmas
pub mod RowLemmas
pub mod HistoryLemmas
pub mod ScanLemmas
pub mod TreeLemmas
pub mod HalfLemmas
pub mod NeighbourLemmas
