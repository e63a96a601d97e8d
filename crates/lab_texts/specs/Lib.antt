pub mod Rows
pub mod Texts
pub mod Objects
pub mod Verdicts
pub mod Reports
