pub mod ProductsSound
pub mod ProductSteps
pub mod ProductBounds
pub mod ProductRanges
pub mod ProductAnswers
pub mod PairProductLaws
pub mod ProductRows
