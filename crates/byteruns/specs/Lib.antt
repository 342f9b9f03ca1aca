pub mod ByteEntries
