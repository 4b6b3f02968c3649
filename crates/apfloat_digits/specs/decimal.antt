pub mod DigitCounts
pub mod DigitSteps
pub mod WrittenDigits
