pub mod NewLaws
pub mod FilmLaws
pub mod HeaderLaws
pub mod FindLaws
pub mod FrameLaws
pub mod BackLaws
pub mod Promises
pub mod OneAnswer
