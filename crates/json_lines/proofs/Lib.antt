pub mod LineLemmas
pub mod PageLines
pub mod Zips
