-- What owning a sketch says of its array: Sized.
pub mod Sized
