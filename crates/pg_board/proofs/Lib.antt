pub mod CountLemmas
pub mod BoardLemmas
pub mod MergeLemmas
pub mod TrayLemmas
pub mod LawLemmas
pub mod Examples
