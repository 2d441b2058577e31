pub mod Places
pub mod Refusals
pub mod Sentences
pub mod Advice
pub mod Shown
pub mod Written
