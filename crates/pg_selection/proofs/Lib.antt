pub mod Examples
pub mod RunLemmas
pub mod SameLemmas
pub mod SelectLemmas
pub mod TreeLemmas
