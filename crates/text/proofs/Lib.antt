pub mod NumberLaws
pub mod PutLaws
pub mod OneAnswer
