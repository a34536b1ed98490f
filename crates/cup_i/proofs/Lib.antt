pub mod SplitSums
pub mod BackLaws
pub mod FactorLaws
pub mod DegreeLaws
pub mod KeptLaws
pub mod SideLaws
pub mod PairLaws
pub mod AboveLaws
