mod ListLemmas
mod AnswerLemmas
mod WorkLemmas
mod CaseLemmas
