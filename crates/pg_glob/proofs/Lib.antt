pub mod ReadingLemmas
pub mod MatchLemmas
pub mod Examples
pub mod GlobFileLemmas
