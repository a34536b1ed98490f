pub mod Entries
pub mod Buckets
pub mod Listings
