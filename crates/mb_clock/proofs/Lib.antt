pub mod Examples
pub mod MomentLemmas
pub mod ClockLemmas
