pub mod ByteLamp
