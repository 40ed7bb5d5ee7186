mod AscendingLemmas
pub mod StockLemmas
mod GatherLemmas
mod ProgressLemmas
pub mod OrderLemmas
mod StepLemmas
mod EventLemmas
