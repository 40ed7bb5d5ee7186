mod ToldLemmas
mod UnfitLemmas
mod GroupLemmas
mod ReadsLemmas
