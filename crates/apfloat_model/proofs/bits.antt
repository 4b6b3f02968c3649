pub mod Encodings
pub mod EncodedOnce
pub mod FieldsOf
pub mod NanSignificands
