pub mod ProgrammingTrack
pub mod Encoded
pub mod ProgrammingTrackReading
pub mod Loan
pub mod StationEncoded
pub mod EncodeStation
pub mod Inner
