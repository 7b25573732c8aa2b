pub mod StepLemmas
pub mod WalkLemmas
pub mod CornerLists
pub mod HeightLemmas
pub mod VerdictLemmas
pub mod SideLemmas
pub mod PartLemmas
