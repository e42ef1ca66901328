pub mod GoodLemmas
pub mod KeptOrders
pub mod LoneLemmas
pub mod MarkLemmas
pub mod SearchLemmas
pub mod StartLemmas
pub mod WayLemmas
