-- Laws of the disk. They are proved, so nobody has to read a proof to know what is promised. The theorems of docs/PROMISES.md
-- stand in TableLaws, SoundTest, Refusals, GrantLaws, SoundKept, Safety, ReaderBound, Stays, GrantedAtOnce and Tickets; the other
-- files are lemmas for them.
pub mod FieldLaws
pub mod Events
pub mod SoundTest
pub mod ProperLaws
pub mod TableLaws
pub mod Refusals
pub mod GrantLaws
pub mod AttributeLaws
pub mod QueueLaws
pub mod TicketLaws
pub mod ClaimLaws
pub mod FigureLaws
pub mod FitLaws
pub mod SoundKept
pub mod Safety
pub mod Near
pub mod Covered
pub mod Invariant
pub mod ReaderBound
pub mod Stays
pub mod GrantedAtOnce
pub mod Tickets
