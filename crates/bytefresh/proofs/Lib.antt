pub mod ByteStarts
