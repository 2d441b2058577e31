pub mod AcceptedLaw
pub mod inner
