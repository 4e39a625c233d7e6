pub mod ConsoleEvents
pub mod NumberEvents
