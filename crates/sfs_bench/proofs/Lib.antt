pub mod FixtureLemmas
