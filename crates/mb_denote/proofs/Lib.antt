pub mod CollectLemmas
pub mod CountLemmas
pub mod Equality
mod Examples
