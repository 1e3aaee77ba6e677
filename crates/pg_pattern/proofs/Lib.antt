pub mod HitLaws
pub mod TestLemmas
pub mod PartLaws
pub mod Examples
pub mod PatternLemmas
pub mod LengthLemmas
