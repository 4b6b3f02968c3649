pub mod Scans
pub mod Saturation
pub mod LiteralParts
pub mod Payloads
pub mod TextsRead
