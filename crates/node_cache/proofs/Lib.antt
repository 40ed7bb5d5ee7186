mod KeptLemmas
mod TruthLemmas
