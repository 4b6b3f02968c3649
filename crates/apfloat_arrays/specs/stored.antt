pub mod Formats
pub mod Stored
pub mod Arrays
pub mod Numbers
pub mod ByMode
pub mod CodeTables
pub mod NumberCodes
pub mod NumberArrays
