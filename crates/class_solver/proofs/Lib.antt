pub mod TestedCocycles
pub mod AlongPhi
pub mod Listed
pub mod ClassSums
