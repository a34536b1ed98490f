pub mod PackLaws
pub mod RangeLaws
pub mod TreeLaws
