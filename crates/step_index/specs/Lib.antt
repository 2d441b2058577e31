pub mod Named
pub mod Siblings
pub mod inner
