pub mod Words
pub mod TestedCocycles
pub mod HalfLaws
