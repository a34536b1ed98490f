pub mod ChangeLaws
pub mod ClassLaws
pub mod SquareLaws
pub mod CountLaws
pub mod PairLaws
pub mod BocksteinLaws
pub mod CohomologousLaws
pub mod KnownOperations
