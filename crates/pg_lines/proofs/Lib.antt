pub mod BetweenLemmas
pub mod EachLineLemmas
pub mod GatherLemmas
pub mod PartLemmas
pub mod PatternLemmas
pub mod ScanLemmas
pub mod StringLemmas
