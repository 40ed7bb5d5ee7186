pub mod ReplyLemmas
pub mod MountingLemmas
pub mod HearingLemmas
