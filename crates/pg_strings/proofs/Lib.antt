pub mod KeyLemmas
pub mod ChainLemmas
pub mod WalkLemmas
pub mod PlaceLemmas
pub mod LongestLemmas
pub mod ShortLemmas
pub mod WholeLemmas
