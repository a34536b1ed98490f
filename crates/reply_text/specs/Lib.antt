pub mod Answers
pub mod Kept
pub mod Replies
pub mod Rows
