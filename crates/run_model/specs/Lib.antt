pub mod Boot
pub mod Demand
pub mod Schedule
pub mod Replay
pub mod Console
