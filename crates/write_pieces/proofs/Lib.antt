pub mod TurnLaws
pub mod WalkLaws
pub mod FilmLaws
pub mod CallLaws
pub mod OneAnswer
pub mod Promises
