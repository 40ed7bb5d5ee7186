pub mod HeardLemmas
pub mod CallLemmas
pub mod RefusalLemmas
