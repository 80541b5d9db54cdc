-- The disk that a part holds while it is changed.
pub mod Holding
pub mod HoldingLaws
