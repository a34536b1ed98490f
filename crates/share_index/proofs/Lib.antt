pub mod BucketLaws
pub mod SearchLaws
pub mod EntryLaws
pub mod ListingLaws
