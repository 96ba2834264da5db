mod Examples
pub mod DecimalDigits
mod DigitLemmas
