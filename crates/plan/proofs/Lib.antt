pub mod PutLaws
pub mod ChainLaws
pub mod NotedLaws
