pub mod Reports
pub mod Sums
