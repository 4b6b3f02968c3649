pub mod TextsOnce
pub mod ParsedOnce
pub mod DecimalReadings
pub mod FlaggedReadings
pub mod DigitsOnce
pub mod PairsOnce
