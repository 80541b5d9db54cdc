-- The layout of a part, with its laws.
pub mod ByteLaws
pub mod Layout
pub mod Status
pub mod LayoutLaws
pub mod SlotLaws
pub mod Held
pub mod RangeLaws
pub mod PartLaws
