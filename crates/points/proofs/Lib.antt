pub mod Machine
pub mod CrossLaws
pub mod PointLaws
pub mod BackLaws
pub mod Ends
pub mod PointTable
pub mod Squares
