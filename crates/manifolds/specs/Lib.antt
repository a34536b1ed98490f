pub mod Closed
pub mod Links
