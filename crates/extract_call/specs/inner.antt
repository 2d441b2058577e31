-- What private functions and proofs say. No contract of a public call cites it.
pub mod Asked
pub mod OnePage
pub mod Tasks
