pub mod WholeNumbers
pub mod WholeNumbersOut
pub mod SignedWholes
