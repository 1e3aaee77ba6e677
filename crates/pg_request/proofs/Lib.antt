pub mod ReadingLemmas
pub mod GlobFileLemmas
mod GlobLemmas
