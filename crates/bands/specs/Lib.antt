pub mod BandList
