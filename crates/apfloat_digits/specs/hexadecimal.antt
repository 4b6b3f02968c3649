pub mod HexTexts
pub mod PayloadTexts
pub mod ReadBack
pub mod RoundedTexts
pub mod WrittenTexts
