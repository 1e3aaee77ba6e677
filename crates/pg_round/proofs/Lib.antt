pub mod DrainLemmas
pub mod ReceiptLemmas
