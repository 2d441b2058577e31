-- What private functions and proofs say. No contract of a public call cites it.
pub mod Attributes
pub mod Extremes
pub mod Languages
pub mod Plain
pub mod Sets
pub mod Spacing
pub mod Texts
pub mod Translations
