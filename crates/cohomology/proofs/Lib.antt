pub mod Searching
pub mod Naming
pub mod Cocycles
pub mod Canonicals
pub mod ClassLaws
pub mod BoundLaws
pub mod CycleLaws
pub mod TestLaws
pub mod CycleClasses
pub mod MapLaws
mod Examples
