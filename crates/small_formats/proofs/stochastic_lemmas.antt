pub mod DirectedResults
pub mod RestDistances
pub mod NumbersBy
pub mod OneAnswer
pub mod ElementsBy
pub mod UnsignedBy
pub mod ElementsOnce
