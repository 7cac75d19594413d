-- What is written is read back, and nothing else is accepted: RoundTrip.
pub mod RoundTrip
