pub mod Events
pub mod Machine
pub mod OnePort
pub mod Reader
