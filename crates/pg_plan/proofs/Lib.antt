pub mod ListLemmas
pub mod CursorLemmas
pub mod BeginLemmas
pub mod ArrivalLaws
