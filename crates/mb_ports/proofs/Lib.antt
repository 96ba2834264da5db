pub mod CarryLaw
pub mod MachineLaw
pub mod OnePortLaw
pub mod PortsLaw
pub mod ReaderLaw
