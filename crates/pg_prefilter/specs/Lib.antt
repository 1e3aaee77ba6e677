pub mod Enough
pub mod Literals
pub mod Fixed
pub mod Strings
pub mod NextHits
pub mod Candidates
pub mod Prefilters
