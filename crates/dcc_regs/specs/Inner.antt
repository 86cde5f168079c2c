-- Definitions that only contracts of private functions use.
pub mod ConflictParts
pub mod Same
pub mod EffectParts
pub mod SetsByKind
pub mod HearsByAddress
pub mod WriteParts
pub mod GroupParts
