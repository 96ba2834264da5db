pub mod CommandLemmas
mod ReadLemmas
