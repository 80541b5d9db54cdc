pub mod WalkLaws
pub mod AloneLaws
pub mod MarkLaws
pub mod MeetLaws
pub mod SoundLaws
pub mod DiskLaws
