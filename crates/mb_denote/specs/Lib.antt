pub mod Collected
pub mod Collecting
pub mod Counted
pub mod Denoted
