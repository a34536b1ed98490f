pub mod Squares
pub mod Bocksteins
pub mod Cohomologous
