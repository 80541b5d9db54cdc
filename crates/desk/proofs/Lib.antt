-- Laws that the proofs of several functions use.
pub mod ReleaseLaws
pub mod ServeLaws
pub mod FrameLaws
