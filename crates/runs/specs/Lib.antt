pub mod Run
pub mod Results
pub mod Follow
pub mod Streams
pub mod Demand3
pub mod Claims
