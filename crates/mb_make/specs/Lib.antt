pub mod Generated
pub mod Units
