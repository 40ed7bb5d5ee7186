mod PutLemmas
mod OnlyLemmas
mod TakeLemmas
mod MapLemmas
