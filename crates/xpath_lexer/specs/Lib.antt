pub mod Laws
pub mod Places
pub mod Tokens
pub mod inner
