pub mod PlayedLaw
pub mod PlayingLemmas
pub mod RecordingLemmas
pub mod PlayBackLaw
