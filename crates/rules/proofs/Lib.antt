-- Laws that the proofs of several functions use.
pub mod MethodLaws
pub mod RuleLaws
pub mod EntryLaws
pub mod TotalsLaws
pub mod RangeLaws
pub mod CallLaws
