pub mod LineLaws
pub mod ChangeLaws
pub mod Examples
