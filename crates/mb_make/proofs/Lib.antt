mod Examples
pub mod MadeLemmas
