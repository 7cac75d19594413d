-- What reading a line gives: Lines.
pub mod Lines
