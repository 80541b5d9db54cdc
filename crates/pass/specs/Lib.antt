-- A turn of the pass on a part, and what the pass leaves.
pub mod Turns
