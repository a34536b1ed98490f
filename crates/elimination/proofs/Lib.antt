pub mod BitLaws
pub mod Counts
pub mod RestLaws
pub mod RowLaws
pub mod KeptLaws
