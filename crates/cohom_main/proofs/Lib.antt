pub mod ReadBytes
pub mod Midst
pub mod Reach
pub mod Endings
pub mod Statuses
pub mod Turns
pub mod CallerWords
