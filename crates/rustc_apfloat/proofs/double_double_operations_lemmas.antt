pub mod Operations
pub mod SumsOfParts
