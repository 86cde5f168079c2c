pub mod DecoderState
pub mod LocoDecoders
pub mod BoardsWithCvs
pub mod Track
pub mod Laws
-- Definitions of lower crates that the contracts of this crate use.
pub use Rattle.dcc_packet.specs.Cvs
pub use Rattle.dcc_regs.specs.Board
pub use Rattle.dcc_regs.specs.BoardState
pub use Rattle.dcc_regs.specs.Result
pub use Rattle.dcc_service.specs.Machine
