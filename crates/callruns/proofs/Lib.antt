pub mod Numbers
pub mod Modulated
pub mod Zeros
pub mod Warming
pub mod Calls
pub mod WhyReads
