pub mod LineLaws
pub mod StreamLaws
mod ReadingExamples
