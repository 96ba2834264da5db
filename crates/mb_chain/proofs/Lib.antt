pub mod ChainLemmas
pub mod EarlyLemmas
pub mod EndLemmas
pub mod FlowLemmas
pub mod RowLemmas
