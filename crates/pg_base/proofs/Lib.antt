pub mod SinkLemmas
pub mod HistorySteps
pub mod WriteLemmas
pub mod PartLemmas
