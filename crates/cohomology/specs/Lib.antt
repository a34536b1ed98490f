pub mod Searches
pub mod Classes
pub mod Cycles
pub mod Words
pub mod Maps
