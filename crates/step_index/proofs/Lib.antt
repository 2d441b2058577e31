mod Axes
mod Counted
mod Filled
mod Firsts
pub mod Places
mod Ranges
mod Siblings
mod Tallied
mod Texts
