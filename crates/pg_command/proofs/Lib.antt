pub mod RefusalLemmas
pub mod StatusLemmas
pub mod WorkLemmas
