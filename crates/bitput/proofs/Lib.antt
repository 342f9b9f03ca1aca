pub mod BytePart
