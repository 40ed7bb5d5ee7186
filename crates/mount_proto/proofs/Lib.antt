pub mod ShortLemmas
pub mod RootLemmas
