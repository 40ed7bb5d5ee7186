pub mod BootLemmas
pub mod LogLemmas
pub mod ScanLemmas
pub mod LawLemmas
