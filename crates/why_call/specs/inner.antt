-- What private functions and proofs say. No contract of a public call cites it.
pub mod Below
pub mod OnePage
