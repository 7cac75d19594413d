-- What the contracts cite beside document 01: Changes, Updates, Inverses. What is shown of the running sketch: Accepted, Running.
pub mod Changes
pub mod Updates
pub mod Inverses
pub mod Pairs
pub mod Accepted
pub mod Running
