pub mod RecordLemmas
pub mod MarkLemmas
pub mod StandLemmas
pub mod FrontLemmas
pub mod RisingRecords
pub mod MomentLemmas
pub mod EndLemmas
pub mod GatheredTapes
mod Examples
pub mod GrowLemmas
