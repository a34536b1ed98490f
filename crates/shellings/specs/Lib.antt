pub mod Shellings
