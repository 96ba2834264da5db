pub mod Heard
pub mod Sounded
pub mod Silence
pub mod Followed
mod Examples
