pub mod Track
pub mod TrackReading
