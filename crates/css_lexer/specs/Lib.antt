pub mod Comments
pub mod Contents
pub mod Escapes
pub mod Laws
pub mod Spelled
pub mod Steps
pub mod Tokens
pub mod inner
