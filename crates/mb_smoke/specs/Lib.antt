pub mod End
pub mod Selftest
pub mod SumLaws
pub mod SumOut
pub mod Summed
pub mod Texts
