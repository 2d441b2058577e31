pub mod Beginnings
pub mod Laws
pub mod SelectorPlaces
pub mod XPathPlaces
pub mod inner
