-- The laws of the reader's own state: what the code has read so far is what the definitions say.
pub mod Slices
pub mod ContentLaws
pub mod ShownLaws
pub mod LackLaws
pub mod LevelLaws
pub mod MemberLaws
pub mod ReadLaws
