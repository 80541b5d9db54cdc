-- Eight slots, and the claims in them.
pub mod Slots
pub mod SlotsLaws
