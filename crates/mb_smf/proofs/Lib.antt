pub mod ClockLemmas
mod Examples
pub mod EventLemmas
pub mod FileLaw
pub mod HandOnLemmas
pub mod HeaderLemmas
pub mod LengthLemmas
pub mod PassLemmas
pub mod QuantityLemmas
pub mod RunLemmas
pub mod TakesLemmas
pub mod WritingLemmas
pub mod WritesLemmas
pub mod WrittenLaw
pub mod WrittenMeaning
