pub mod Lists
pub mod PoolLemmas
pub mod CallLemmas
pub mod FactLemmas
pub mod UnionLemmas
pub mod OrderLemmas
pub mod ClusterLemmas
