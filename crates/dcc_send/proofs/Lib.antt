pub mod LinesLemmas
pub mod EncodeLemmas
pub mod TrackLemmas
pub mod StationLemmas
pub mod BitLemmas
