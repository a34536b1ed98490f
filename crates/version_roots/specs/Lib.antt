pub mod Entries
pub mod Refusals
pub mod Kept
pub mod Judged
pub mod Boards
pub mod Looking
pub mod Local
