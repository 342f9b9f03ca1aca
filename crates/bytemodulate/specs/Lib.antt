pub mod ByteSymbols
