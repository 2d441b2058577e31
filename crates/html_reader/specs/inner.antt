-- What private functions and proofs say. No contract of a public call cites it.
pub mod Keeping
pub mod Kept
pub mod Machine
pub mod Parents
pub mod Pieces
pub mod Reached
pub mod States
pub mod Taking
pub mod Views
