pub mod Table
pub mod Machine
pub mod Progress
pub mod AccessedServiceCv
pub mod Question
pub mod Bits
pub mod CvAnswers
pub mod Readings
pub mod CvWritings
pub mod QuestionLaws
pub mod ReadingLaws
pub mod WritingLaws
-- Definitions of lower crates that the contracts of this crate use.
pub use Rattle.dcc_packet.specs.Cvs
pub use Rattle.dcc_packet.specs.StoredCvs
