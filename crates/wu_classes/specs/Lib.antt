pub mod Refusals
pub mod Values
pub mod Duals
pub mod Sums
