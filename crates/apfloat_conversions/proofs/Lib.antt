mod StoredExponents
pub mod Wholes
mod Limits
mod Nexts
mod NumberFractions
mod ConvertedValues
mod HeldNumbers
mod Steps
pub mod ToSigned
pub mod hex_texts_lemmas
