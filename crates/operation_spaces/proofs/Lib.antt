mod KnownSpaces
pub mod Words
pub mod LeadLaws
pub mod BasisLaws
pub mod DimensionLaws
pub mod RankLaws
pub mod DoubleBockstein
pub mod SpaceLaws
