-- What private functions and proofs say. No contract of a public call cites it.
pub mod Contents
pub mod Places
pub mod Readiness
