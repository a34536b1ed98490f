pub mod Spaces
pub mod OperationSpaces
