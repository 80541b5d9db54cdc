-- The definitions by which the program's promises are stated.
pub mod Rows
