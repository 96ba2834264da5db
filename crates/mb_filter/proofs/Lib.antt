pub mod CountLemmas
pub mod ReadLemmas
pub mod FitLemmas
pub mod MapLemmas
pub mod MappedLaw
pub mod SuitLemmas
mod Examples
