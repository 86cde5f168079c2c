-- Definitions that only contracts of private functions use.
pub mod AheadInput
pub mod FrontLine
pub mod FrontRuns
pub mod FrontWords
