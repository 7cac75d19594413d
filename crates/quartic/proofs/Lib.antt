-- What the coefficients come to: Computing.
pub mod Computing
