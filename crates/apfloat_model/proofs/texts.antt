pub mod OneMeaning
pub mod EachText
pub mod LiteralMeanings
pub mod ZeroTexts
