pub mod TableReplies
pub mod FilmReplies
