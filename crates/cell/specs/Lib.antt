pub mod Types
pub mod ValueTypes
pub mod Parts
pub mod Cells
pub mod CellNumbers
pub mod CellParts
pub mod Promises
