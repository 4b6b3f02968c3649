pub mod CountedDigits
pub mod DigitPlaces
pub mod LongQuotients
pub mod RoundedTexts
pub mod ScaledValues
pub mod OneCount
