pub mod PutLaws
pub mod MarkLaws
pub mod FromLaws
pub mod EndLaws
pub mod OldPutLaws
pub mod ToLaws
pub mod OneAnswer
