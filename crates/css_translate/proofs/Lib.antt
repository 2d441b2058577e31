pub mod Accepted
pub mod Further
pub mod Pushes
pub mod Said
pub mod TextLemmas
pub mod WrittenRuns
