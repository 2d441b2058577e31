-- What private functions and proofs say. No contract of a public call cites it.
pub mod Contexts
pub mod Places
pub mod Sides
pub mod Steps
pub mod Tests
pub mod Words
