-- What the tables hold, and what private functions and proofs say. No contract of a public call cites it.
pub mod Alike
pub mod Tables
