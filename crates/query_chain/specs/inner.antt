-- What private functions and proofs say. No contract of a public call cites it.
pub mod Built
pub mod Found
pub mod Keeping
pub mod Readiness
pub mod RowSteps
pub mod Steps
pub mod Values
