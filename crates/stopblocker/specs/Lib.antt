-- What the program prints, how it goes through a run, and what its lines show; then laws.
pub mod Text
pub mod Lines
pub mod Answering
pub mod Shown
pub mod TextLaws
pub mod LineLaws
pub mod SaidLaws
pub mod AnsweringLaws
