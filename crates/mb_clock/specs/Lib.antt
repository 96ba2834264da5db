pub mod Stamps
pub mod Moments
pub mod Clock
