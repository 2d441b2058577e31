pub mod Escapes
pub mod Kinds
pub mod References
pub mod Tables
