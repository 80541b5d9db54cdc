pub mod Tests
pub mod Seen
