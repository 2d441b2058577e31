-- What private functions and proofs say. No contract of a public call cites it.
pub mod Kinds
pub mod Nearest
pub mod Searching
pub mod SiblingWalks
pub mod TextPlaces
