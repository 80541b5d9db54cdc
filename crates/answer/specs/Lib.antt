-- Answers and refusals: 01's number and values for each, and their bytes; then laws.
pub mod Answers
pub mod AnswerLaws
pub mod ItemLaws
