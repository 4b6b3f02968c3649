pub mod NextDigits
pub mod Scanning
pub mod Saturations
pub mod ReadNumbers
pub mod FaultsRead
pub mod Payloads
pub mod Parentheses
pub mod TextReadings
