pub mod Children
pub mod ByDemand
pub mod Turns
pub mod Everyone
pub mod Awaited
pub mod Settled
pub mod Streams
