pub mod EventLaws
pub mod RefusalLaws
