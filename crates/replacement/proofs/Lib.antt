pub mod PartLists
pub mod SlopeLists
pub mod SlopeHeights
pub mod MergeLemmas
pub mod MergedWalks
pub mod LevelLemmas
