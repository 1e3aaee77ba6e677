pub mod Searches
pub mod Results
pub mod Workers
