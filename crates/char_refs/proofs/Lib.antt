pub mod EscapedLemmas
pub mod DecodedLemmas
pub mod DecodingLemmas
pub mod Numbers
pub mod ReferenceLemmas
