pub mod Cuts
pub mod Extents
pub mod Fronts
pub mod Next
pub mod Spellable
pub mod Spelling
