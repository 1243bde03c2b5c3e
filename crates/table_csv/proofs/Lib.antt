pub mod FieldLaws
pub mod CellOnLaws
pub mod CellPutLaws
pub mod LineLaws
pub mod WriteLaws
pub mod CellReadLaws
pub mod Promises
pub mod OneAnswer
