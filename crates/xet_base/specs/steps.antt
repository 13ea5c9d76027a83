pub mod KeyIndexes
pub mod ShortLists
