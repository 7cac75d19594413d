-- What the guess answers: Guessed.
pub mod Guessed
