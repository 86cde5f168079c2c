pub mod ServiceLemmas
pub mod HeldCvs
pub mod MainWrites
pub mod LocoLemmas
pub mod PlainLemmas
pub mod MachineLemmas
pub mod BoardLemmas
pub mod FrameLemmas
