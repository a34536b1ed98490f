pub mod Callers
pub mod Ends
pub mod Words
