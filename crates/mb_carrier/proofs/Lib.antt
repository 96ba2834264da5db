pub mod BleLemmas
pub mod CableLemmas
pub mod ConversionLemmas
pub mod FillLemmas
pub mod FireLemmas
pub mod Fronts
pub mod GrowLemmas
pub mod GrowSpecs
pub mod LineLemmas
mod LiveExamples
mod MomentExamples
pub mod LiveLemmas
pub mod ListLemmas
pub mod NoteLemmas
pub mod OwedLemmas
pub mod PlaceLemmas
pub mod PortLemmas
pub mod PutLemmas
pub mod ReadingLemmas
pub mod SpecLaws
pub mod WordLemmas
pub mod FreshPlaces
pub mod MessageCounts
pub mod HopMoments
pub mod RisingHops
pub mod ChainMoments
