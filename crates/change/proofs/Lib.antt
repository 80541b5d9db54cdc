-- Laws that the proofs of several functions use.
pub mod ChangeLaws
pub mod GrantLaws
pub mod MoveLaws
