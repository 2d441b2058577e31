-- What private functions and proofs say. No contract of a public call cites it.
pub mod Pieces
pub mod Read
pub mod Runs
