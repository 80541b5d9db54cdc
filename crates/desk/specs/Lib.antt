-- What a call is: the record, the board, and the one equation of `step`.
pub mod Record
pub mod Board
pub mod Step
pub mod Counts
pub mod BoardLaws
pub mod StepLaws
