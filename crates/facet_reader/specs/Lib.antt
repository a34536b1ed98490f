pub mod Meanings
pub mod Lists
pub mod Tables
pub mod Fronts
