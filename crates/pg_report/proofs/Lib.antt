pub mod Examples
pub mod ShownLemmas
pub mod ToldLemmas
