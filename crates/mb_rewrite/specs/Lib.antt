pub mod LineTape
pub mod Line
pub mod Rewriting
pub mod Guarded
pub mod Guarding
pub mod Recorded
pub mod Filtered
pub mod Filtering
