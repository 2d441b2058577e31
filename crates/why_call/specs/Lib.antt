pub mod Answers
pub mod Laws
pub mod Pages
pub mod Plans
pub mod Scripts
pub mod Selectors
pub mod Words
pub mod inner
