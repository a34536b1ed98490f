pub mod Products
pub mod Splittings
pub mod Caps
