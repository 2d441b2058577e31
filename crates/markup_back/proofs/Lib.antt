pub mod CanonicalLemmas
pub mod InkNames
pub mod LawLemmas
pub mod RootRows
pub mod RowFacts
pub mod SpeltLemmas
