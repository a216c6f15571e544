pub mod Numbers
pub mod PairSteps
pub mod Parts
pub mod Product
pub mod Laws
