pub mod PostLemmas
pub mod VoteLemmas
pub mod OpenLemmas
pub mod SaidLemmas
