-- What the desk does, for one disk. The definitions come first, in reading order; each can be computed. They have to be
-- trusted: only reading them, and the situations in Situations, LooksRight and Further, can tell that they are 01's rules.
pub mod Base
pub mod Types
pub mod Readings
pub mod Entries
pub mod Granting
pub mod Calls
pub mod DiskType
pub mod History
pub mod Sound
pub mod Fields
pub mod Sentences
pub mod Conditions
pub mod MayGrant
-- 01's situations, which test the definitions. Steps defines how a situation is written down.
pub mod Steps
pub mod Situations
pub mod LooksRight
pub mod Further
-- What lists, tests and masks have in common. The laws of the disk stand in proofs/, theorems and lemmas.
pub mod Lists
pub mod SomeLaws
pub mod Says
pub mod MaskLaws
