-- Laws of the decision.
pub mod WalkLaws
pub mod DecideLaws
