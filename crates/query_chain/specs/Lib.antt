pub mod Chains
pub mod Items
pub mod Laws
pub mod Patterns
pub mod Rows
pub mod Tasks
pub mod inner
