pub mod KnownManifolds
pub mod LyingLaws
pub mod OrderedLaws
pub mod LinkLaws
pub mod PointLaws
