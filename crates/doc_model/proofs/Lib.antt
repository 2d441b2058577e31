pub mod Awaits
pub mod AxisWalks
pub mod Below
pub mod Ending
pub mod Filters
pub mod Grown
mod KeptReads
pub mod Named
mod Nearest
mod Partition
mod Pushed
pub mod Runs
pub mod Texts
pub mod WalkSteps
mod Worked
