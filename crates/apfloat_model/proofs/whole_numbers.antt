pub mod SignedNumbers
pub mod SignedTests
pub mod SignedProducts
