pub mod ChainLaws
pub mod ChainLists
pub mod EntryTurns
pub mod KeyFields
