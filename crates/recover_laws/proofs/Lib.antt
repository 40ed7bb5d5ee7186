mod OrderLemmas
mod WorkLemmas
mod KeptLemmas
mod AnswerLemmas
mod DoneLemmas
