-- Laws that the proofs of several functions use.
pub mod PassLaws
