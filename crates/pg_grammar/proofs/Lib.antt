pub mod Examples
pub mod SplitLemmas
pub mod ListLemmas
