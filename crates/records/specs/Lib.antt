-- The pieces of a run of records, then laws.
pub mod Pieces
pub mod PieceLaws
