-- What an exchange answers and leaves: Exchanged.
pub mod Exchanged
