pub mod Pairs
pub mod RelativeClasses
pub mod Sequences
pub mod Exactness
pub mod Cones
