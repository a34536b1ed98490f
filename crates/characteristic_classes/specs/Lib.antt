pub mod Pairings
pub mod WuClasses
