pub mod ByteFills
