pub mod PieceLaws
pub mod OneAnswer
