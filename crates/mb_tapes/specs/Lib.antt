pub mod Played
pub mod Playing
pub mod Recorded
pub mod Recording
