pub mod TruthTables
pub mod SplittingLaws
pub mod HalfLaws
pub mod ValueLaws
pub mod CoboundaryLaw
pub mod WalkLaws
pub mod CapLaws
pub mod KnownProducts
