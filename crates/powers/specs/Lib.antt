-- How exponents behave: Exponents. Powers from a table of two halves: Powers.
pub mod Exponents
pub mod Powers
