pub mod PlainLemmas
pub mod StandLemmas
pub mod BeginLemmas
pub mod TreeLineLemmas
pub mod JudgeLemmas
pub mod TreeJudgeLemmas
