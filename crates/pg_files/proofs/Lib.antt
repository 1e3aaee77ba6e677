mod MemStoreLemmas
pub mod ListedLemmas
pub mod WholeFileLemmas
