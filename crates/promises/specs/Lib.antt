-- The demands: Unique, Honest, Demands. C entries and report: Entries, Reports. The starred cases: Claims, Starred.
pub mod Unique
pub mod Entries
pub mod Reports
pub mod Honest
pub mod Demands
pub mod Claims
pub mod Starred
