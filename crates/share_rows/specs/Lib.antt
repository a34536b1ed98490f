pub mod Lends
pub mod Packs
pub mod Tables
