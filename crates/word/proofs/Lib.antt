pub mod NumberLaws
pub mod PastEnd
pub mod OneAnswer
