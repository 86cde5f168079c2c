-- Definitions that only contracts of private functions use.
pub mod InStep
pub mod Sides
pub mod Pushing
pub mod LostTexts
pub mod SpikedRuns
