-- Five coefficients: Five.
pub mod Five
