pub mod Cochains
pub mod Marks
pub mod Refusals
