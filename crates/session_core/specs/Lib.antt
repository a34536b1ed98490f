pub mod Holdings
pub mod Places
pub mod Names
pub mod Steps
pub mod Looked
