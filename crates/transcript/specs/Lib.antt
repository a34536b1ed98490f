pub mod Values
pub mod Refusals
pub mod Words
pub mod Answers
pub mod Replies
pub mod Steps
pub mod Transcripts
