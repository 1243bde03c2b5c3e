pub mod KeyTableOut
