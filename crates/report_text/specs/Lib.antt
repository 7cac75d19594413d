-- What writing into a lent buffer leaves: Puts.
pub mod Puts
