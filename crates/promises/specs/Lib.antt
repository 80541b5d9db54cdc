-- The definitions that the promises use: histories of calls, what was asked in them, and the sentences. The promises themselves stand in
-- proofs/, whose Lib.antt shows how to read them aloud.
pub mod Histories
pub mod Sentences
pub mod Asks
