pub mod AcceptedLemmas
