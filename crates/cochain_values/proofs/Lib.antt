pub mod MarkLaws
pub mod CoboundaryLaws
pub mod LiteralLaws
