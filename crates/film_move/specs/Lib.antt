pub mod Moving
pub mod FromOld
pub mod ToOld
