pub mod GivenLemmas
pub mod GoingLemmas
pub mod ReadLemmas
