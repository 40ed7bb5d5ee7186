pub mod RulesLemmas
