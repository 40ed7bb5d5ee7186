pub mod HeaderLemmas
pub mod LayLemmas
pub mod FreshNodeLemmas
pub mod FormatLemmas
