pub mod HandleLemmas
pub mod LogLemmas
pub mod PlaceLemmas
pub mod ToldLemmas
