pub mod AddingLemmas
pub mod AttributeRows
pub mod ContentRows
pub mod EscapeLemmas
pub mod Levels
pub mod NameLemmas
pub mod OpenRows
