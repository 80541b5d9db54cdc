-- The definitions that the contracts cite, with their laws.
pub mod Bits
pub mod Bridge
pub mod Count
pub mod Fits
pub mod Metric
pub mod Opened
pub mod OpenedLaws
pub mod RunLaws
pub mod Runs
pub mod Signed
pub mod Word
pub mod WordLaws
