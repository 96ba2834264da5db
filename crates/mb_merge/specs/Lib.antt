pub mod Links
pub mod Passing
pub mod Opening
pub mod Calls
