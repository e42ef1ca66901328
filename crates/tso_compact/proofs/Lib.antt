pub mod MotionLemmas
pub mod NamingLemmas
pub mod PathLemmas
pub mod PerformLemmas
pub mod PlanLemmas
pub mod SortLemmas
