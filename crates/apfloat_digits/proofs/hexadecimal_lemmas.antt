pub mod AlignedDigits
pub mod Characters
pub mod Lengths
pub mod NanPayloads
pub mod Numbers
pub mod ReadTexts
pub mod Roundings
