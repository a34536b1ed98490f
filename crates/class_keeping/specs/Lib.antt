pub mod Tables
pub mod Fillings
pub mod Grown
