mod HeadLemmas
mod ImageLemmas
mod WriteLemmas
mod CommandLemmas
