-- What taking keys out of a buffer leaves: Taken.
pub mod Taken
