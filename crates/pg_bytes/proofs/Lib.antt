pub mod Examples
pub mod SetLemmas
pub mod WordLemmas
pub mod CaseLemmas
