-- What numbers tell of bad slots: Faults.
pub mod Faults
