mod Scanned
pub mod Words
