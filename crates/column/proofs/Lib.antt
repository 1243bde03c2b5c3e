pub mod ColumnLaws
pub mod OneAnswer
pub mod BoundLaws
