pub mod HalvesLemmas
pub mod LocoLemmas
pub mod SmallLocoLemmas
pub mod ApplyLemmas
pub mod ArrayLemmas
pub mod BoardLemmas
pub mod FrameLemmas
pub mod FramerLemmas
pub mod HeardLemmas
pub mod PossibleNumbers
pub mod SenderLemmas
pub mod ReaderLemmas
pub mod ServicePacketLemmas
pub mod PacketFieldLemmas
mod KeptPacketLemmas
mod WorkedExamples
mod ZeroExamples
pub mod TrackPartLemmas
pub mod PossibleLocoLemmas
pub mod PossibleBoardLemmas
pub mod DecoderLemmas
pub mod BoardDecoderLemmas
pub mod LayoutLemmas
