pub mod CallLemmas
pub mod FirstLemmas
