pub mod ListedChains
pub mod KeptLaws
pub mod CycleWords
pub mod BoundaryTests
pub mod Fronts
