pub mod ConvertLemmas
mod Examples
pub mod MeantLemmas
pub mod SumLemmas
pub mod TextLemmas
