pub mod ByteNews
pub mod DinMarks
mod Examples
pub mod FewMarks
pub mod FewTold
pub mod FreeLemmas
pub mod NextLaw
pub mod ReaderLaw
pub mod Rises
pub mod RunLemmas
pub mod RunNextLemmas
pub mod Simulation
pub mod StatusStep
pub mod StreamLaw
pub mod StreamLemmas
pub mod TurnLemmas
pub mod WholeLemmas
pub mod WriterLemmas
mod WrittenExamples
pub mod WrittenMarks
