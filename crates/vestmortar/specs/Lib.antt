pub mod Commands
pub mod Counts
pub mod Digits
pub mod Kinds
pub mod Options
pub mod Outcomes
pub mod Sheets
