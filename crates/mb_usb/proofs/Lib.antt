pub mod AnewLemmas
pub mod CablesLaw
pub mod CarrierLaws
mod DeviceExamples
pub mod EachCable
mod Examples
pub mod GoodCuts
pub mod HandsLemmas
pub mod HeldBytes
pub mod HeldClean
pub mod LiveBytes
pub mod LiveLaw
pub mod Longest
pub mod Loops
pub mod PacketFacts
mod NumberExamples
pub mod OnlyCable
pub mod OtherCables
mod PacketPlaces
pub mod PayloadMarks
mod Places
pub mod ReadLemmas
mod RecordingExamples
pub mod RunningLemmas
pub mod Steps
pub mod UsbLaw
pub mod UsbReaderLaw
pub mod WholePackets
pub mod WriterLemmas
pub mod WrittenCuts
