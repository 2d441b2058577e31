-- What proofs say. No contract of a public call cites it.
pub mod Expression
pub mod LinkPredicates
pub mod Predicates
pub mod TestPredicates
