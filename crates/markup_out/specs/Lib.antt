pub mod Escapes
pub mod Laws
pub mod Markup
pub mod Names
pub mod inner
