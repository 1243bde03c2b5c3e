pub mod FilmLaws
pub mod OneAnswer
pub mod Promises
