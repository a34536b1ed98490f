pub mod Above
pub mod Backs
pub mod Factors
pub mod Pairs
pub mod Refusals
pub mod Splits
