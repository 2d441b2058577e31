pub mod Bounds
pub mod Equations
pub mod Made
pub mod Mapped
pub mod TextsAt
pub mod Views
pub mod WordsAt
mod Worked
