pub mod Examples
pub mod Sizes
pub mod Specificity
pub mod Texts
pub mod WellMade
pub mod Words
