pub mod BlockPutLaws
pub mod TablePutLaws
pub mod EachPutLaws
pub mod ChunkPutLaws
pub mod FilmPutLaws
pub mod PieceLaws
pub mod OneAnswer
