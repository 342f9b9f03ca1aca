pub mod BytePutting
