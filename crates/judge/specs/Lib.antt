-- The decision.
pub mod Decisions
