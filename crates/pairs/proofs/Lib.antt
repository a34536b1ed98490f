mod KnownPairs
pub mod PartLaws
pub mod ExactLaws
pub mod RelativeKinds
pub mod Prescribed
pub mod RelativeCycles
pub mod Numbering
pub mod RelativeBounds
pub mod RelativeClassLaws
pub mod Refusals
pub mod SequenceLaws
pub mod Extremes
pub mod ConnectLaws
pub mod ConeLaws
pub mod ConeGrowth
