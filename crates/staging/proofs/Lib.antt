pub mod ChangeLemmas
pub mod WholeMapsLemmas
