pub mod ListLemmas
pub mod GrowLemmas
pub mod CoverLemmas
